-- Bytes stand for one column, and for none where a refusal stands.
use Rattle.std.proofs.Common.{◌≡◌, ℕ, List, [], refl, sym, ap, subst, ◌∙◌, arith, inl, inr}
use Rattle.lan_bytes.specs.Placed.{Placed}
use Rattle.lan_model.specs.Leaves.{PlainLeaf}
use Rattle.lan_levels.specs.declared.shape.ValueKind.{ValueKind}
use Rattle.lan_wire.specs.declared.item.Item.{Item}
use Rattle.lan_wire.specs.declared.rules.Kind.TheVariants.{OneOf}
use Rattle.lan_wire.specs.Rules.{Rules, open_to, closed_to, kind_at}
use Rattle.lan_wire.specs.Messages.{ReadsItems}
use Rattle.lan_wire.specs.Values.{num_under, nums_under, parts_under, Under}
use Rattle.lan_wire.proofs.LawTerms.{refused_part}
use Rattle.lan_wire.proofs.Nested.{reads_as_one, reads_or_fails, reads_not_fails, under_both, under_some, under_apart, under_one, read_each_one, read_each_meets}
use Rattle.lan_meta.specs.declared.encoding.SaidPage.{SaidPage}
use Rattle.lan_meta.specs.declared.encoding.TheConstants.{PAGE, ENCODING, DIRECT_ENCODING}
use Rattle.lan_meta.specs.declared.layout.SaidLayout.{SaidLayout}
use Rattle.lan_meta.specs.declared.layout.TheConstants.{CONSTANT, FULL_ZIP}
use Rattle.lan_meta.specs.declared.message.Message.TheVariants as message
use Rattle.lan_meta.specs.declared.message.MetaFault.{MetaFault}
use Rattle.lan_meta.specs.declared.message.MetaFault.TheVariants.{Wire, Unsupported, Missing, Layers, Counts, Values, Bits, Region, Memory}
use Rattle.lan_meta.specs.declared.page.Layout.TheVariants.{Zip}
use Rattle.lan_meta.specs.declared.page.PageMeta.{PageMeta}
use Rattle.lan_meta.specs.declared.reading.TheConstants.{COLUMN_METADATA}
use Rattle.lan_meta.specs.declared.values.TheConstants.{VALUES, FLAT, CONSTANT_VALUE}
use Rattle.lan_meta.specs.Columns.{StandsForPage, RefusesPage, PagesSaid, PagesRefused, ColumnOf, RefusesColumn}
use Rattle.lan_meta.specs.Faults.{fault_in}
use Rattle.lan_meta.specs.LayoutMessages.{codes_said, SaysMini, SaysConstant, SaysZip, ZipSaid, LayoutSaid, layouts, SaysLayout, FailsMini, FailsConstant, LacksStored, FailsZip, LacksLayout, FailsLayout}
use Rattle.lan_meta.specs.PageMessages.{SaysDirect, SaysEncoding, PageSaid, SaysPage, FailsDirect, FailsEncoding, LacksEncoding, FailsPage}
use Rattle.lan_meta.specs.PageRules.{Obeys, BreaksRule, meta_of}
use Rattle.lan_meta.specs.ValueMessages.{SaysFlat, SaysVariable, HasBytes, SaysConstantValue, ValuesSaid, SaysValues, FailsFlat, FailsVariable, LacksBytes, FailsConstantValue, LacksValues, FailsValues}

-- ---- how values are stored

one_flat : (part : Placed) (v w : ValueKind) → SaysFlat part v → SaysFlat part w → v ≡ w
one_flat part v w p q = reads_as_one (closed_to FLAT) _ part v w (λ items r a b. a ∙ sym b) p q

one_variable : (part : Placed) (v w : ValueKind) → SaysVariable part v → SaysVariable part w → v ≡ w
one_variable part v w p q = reads_as_one (closed_to []) _ part v w (λ items r a b. a ∙ sym b) p q

one_constant_value : (part : Placed) (v w : ValueKind) → SaysConstantValue part v → SaysConstantValue part w → v ≡ w
one_constant_value part v w p q = under_one (closed_to CONSTANT_VALUE) 1 HasBytes (λ bytes a b x y. x ∙ sym y) part v w p q

-- members of two numbers
apart : {M N X : Type 0} (rules : Rules) (message : Placed) (items : List Item) (a b : ℕ) (P : Placed → M → Type 0) (Q : Placed → N → Type 0) (m : M) (n : N) → ReadsItems rules message items
    → (a ≡ b → ⊥) → kind_at rules a ≡ OneOf → kind_at rules b ≡ OneOf → Under a P items m → Under b Q items n → X
apart {M} {N} {X} rules message items a b P Q m n r ne is_a is_b p q = absurd (under_apart rules message items a b P Q m n r ne is_a is_b p q)

one_member : (message : Placed) (items : List Item) → ReadsItems (closed_to VALUES) message items → (v w : ValueKind) → ValuesSaid items v → ValuesSaid items w → v ≡ w
one_member message items r v w p q = elim p [
  | inl a ↦ elim q [
    | inl b ↦ under_both 1 SaysFlat SaysFlat items v w (λ part x y. one_flat part v w x y) a b
    | inr s ↦ elim s [
      | inl b ↦ apart (closed_to VALUES) message items 1 2 _ _ v w r (λ e. omega (arith, e)) refl refl a b
      | inr b ↦ apart (closed_to VALUES) message items 1 3 _ _ v w r (λ e. omega (arith, e)) refl refl a b
    ]
  ]
  | inr t ↦ elim t [
    | inl a ↦ elim q [
      | inl b ↦ apart (closed_to VALUES) message items 2 1 _ _ v w r (λ e. omega (arith, e)) refl refl a b
      | inr s ↦ elim s [
        | inl b ↦ under_both 2 SaysVariable SaysVariable items v w (λ part x y. one_variable part v w x y) a b
        | inr b ↦ apart (closed_to VALUES) message items 2 3 _ _ v w r (λ e. omega (arith, e)) refl refl a b
      ]
    ]
    | inr a ↦ elim q [
      | inl b ↦ apart (closed_to VALUES) message items 3 1 _ _ v w r (λ e. omega (arith, e)) refl refl a b
      | inr s ↦ elim s [
        | inl b ↦ apart (closed_to VALUES) message items 3 2 _ _ v w r (λ e. omega (arith, e)) refl refl a b
        | inr b ↦ under_both 3 SaysConstantValue SaysConstantValue items v w (λ part x y. one_constant_value part v w x y) a b
      ]
    ]
  ]
]

one_values : (part : Placed) (v w : ValueKind) → SaysValues part v → SaysValues part w → v ≡ w
one_values part v w p q = reads_as_one (closed_to VALUES) ValuesSaid part v w (λ items r a b. one_member part items r v w a b) p q

constant_value_fails : (part : Placed) (v : ValueKind) (e : MetaFault) → SaysConstantValue part v → FailsConstantValue part e → e ≡ Memory
constant_value_fails part v e s f = reads_not_fails (fault_in message.ConstantValue) (closed_to CONSTANT_VALUE) (Under 1 HasBytes) LacksBytes part v e (λ items r said lack. elim lack [
  | inl w ↦ w
  | inr w ↦ absurd (under_some 1 HasBytes items v said w.0)
]) s f

member_fails : (message : Placed) (items : List Item) → ReadsItems (closed_to VALUES) message items → (v : ValueKind) (e : MetaFault) → ValuesSaid items v → LacksValues items e → e ≡ Memory
member_fails message items r v e p q = elim p [
  | inl a ↦ elim q [
    | inl w ↦ absurd (under_some 1 SaysFlat items v a w.0.0)
    | inr s ↦ elim s [
      | inl b ↦ under_both 1 SaysFlat FailsFlat items v e (λ part x y. absurd (reads_or_fails (closed_to FLAT) _ part v y.0 x y.1)) a b
      | inr t ↦ elim t [
        | inl b ↦ apart (closed_to VALUES) message items 1 2 _ _ v e r (λ k. omega (arith, k)) refl refl a b
        | inr b ↦ apart (closed_to VALUES) message items 1 3 _ _ v e r (λ k. omega (arith, k)) refl refl a b
      ]
    ]
  ]
  | inr u ↦ elim u [
    | inl a ↦ elim q [
      | inl w ↦ absurd (under_some 2 SaysVariable items v a w.0.1)
      | inr s ↦ elim s [
        | inl b ↦ apart (closed_to VALUES) message items 2 1 _ _ v e r (λ k. omega (arith, k)) refl refl a b
        | inr t ↦ elim t [
          | inl b ↦ under_both 2 SaysVariable FailsVariable items v e (λ part x y. absurd (reads_or_fails (closed_to []) _ part v y.0 x y.1)) a b
          | inr b ↦ apart (closed_to VALUES) message items 2 3 _ _ v e r (λ k. omega (arith, k)) refl refl a b
        ]
      ]
    ]
    | inr a ↦ elim q [
      | inl w ↦ absurd (under_some 3 SaysConstantValue items v a w.0.2)
      | inr s ↦ elim s [
        | inl b ↦ apart (closed_to VALUES) message items 3 1 _ _ v e r (λ k. omega (arith, k)) refl refl a b
        | inr t ↦ elim t [
          | inl b ↦ apart (closed_to VALUES) message items 3 2 _ _ v e r (λ k. omega (arith, k)) refl refl a b
          | inr b ↦ under_both 3 SaysConstantValue FailsConstantValue items v e (λ part x y. constant_value_fails part v e x y) a b
        ]
      ]
    ]
  ]
]

values_fail : (part : Placed) (v : ValueKind) (e : MetaFault) → SaysValues part v → FailsValues part e → e ≡ Memory
values_fail part v e s f = reads_not_fails (fault_in message.Values) (closed_to VALUES) ValuesSaid LacksValues part v e (λ items r said lack. member_fails part items r v e said lack) s f

-- ---- layouts

one_constant : (part : Placed) (s t : SaidLayout) → SaysConstant part s → SaysConstant part t → s ≡ t
one_constant part s t p q = reads_as_one (closed_to CONSTANT) _ part s t (λ items r a b. a ∙ sym b) p q

one_zip : (part : Placed) (s t : SaidLayout) → SaysZip part s → SaysZip part t → s ≡ t
one_zip part s t p q = reads_as_one (closed_to FULL_ZIP) ZipSaid part s t (λ items r a b.
    let values : a.0 ≡ b.0 = under_both 3 SaysValues SaysValues items a.0 b.0 (λ v x y. one_values v a.0 b.0 x y) a.1 b.1 in
    a.2 ∙ (λ i. record { layout = Zip (codes_said items) (num_under 2 items) (values i); bits_rep = num_under 4 items; bits_def = num_under 5 items }) ∙ sym b.2) p q

constant_fails : (part : Placed) (s : SaidLayout) (e : MetaFault) → SaysConstant part s → FailsConstant part e → e ≡ Memory
constant_fails part s e p f = reads_not_fails (fault_in message.Constant) (closed_to CONSTANT) _ _ part s e (λ items r said lack. lack) p f

zip_fails : (part : Placed) (s : SaidLayout) (e : MetaFault) → SaysZip part s → FailsZip part e → e ≡ Memory
zip_fails part s e p f = reads_not_fails (fault_in message.FullZip) (closed_to FULL_ZIP) ZipSaid (LacksStored (Missing message.FullZip 3)) part s e (λ items r said lack. elim lack [
  | inl w ↦ w
  | inr t ↦ elim t [
    | inl w ↦ absurd (under_some 3 SaysValues items said.0 said.1 w.0)
    | inr w ↦ under_both 3 SaysValues FailsValues items said.0 e (λ v x y. values_fail v said.0 e x y) said.1 w
  ]
]) p f

-- a page of chunks isn't read yet
pub no_mini : {M X : Type 0} (message : Placed) (items : List Item) (P : Placed → M → Type 0) (m : M) → ReadsItems layouts message items → Under 1 P items m → X
no_mini {M} {X} message items P m r p = absurd (under_some 1 P items m p (refused_part layouts message items 1 refl r))

one_layout : (part : Placed) (s t : SaidLayout) → SaysLayout part s → SaysLayout part t → s ≡ t
one_layout part s t p q = reads_as_one layouts LayoutSaid part s t (λ items r a b. elim a [
  | inl x ↦ no_mini part items SaysMini s r x
  | inr u ↦ elim b [
    | inl y ↦ no_mini part items SaysMini t r y
    | inr v ↦ elim u [
      | inl x ↦ elim v [
        | inl y ↦ under_both 2 SaysConstant SaysConstant items s t (λ bytes m n. one_constant bytes s t m n) x y
        | inr y ↦ apart layouts part items 2 3 _ _ s t r (λ e. omega (arith, e)) refl refl x y
      ]
      | inr x ↦ elim v [
        | inl y ↦ apart layouts part items 3 2 _ _ s t r (λ e. omega (arith, e)) refl refl x y
        | inr y ↦ under_both 3 SaysZip SaysZip items s t (λ bytes m n. one_zip bytes s t m n) x y
      ]
    ]
  ]
]) p q

layout_fails : (part : Placed) (s : SaidLayout) (e : MetaFault) → SaysLayout part s → FailsLayout part e → e ≡ Memory
layout_fails part s e p f = reads_not_fails (fault_in message.PageLayout) layouts LayoutSaid LacksLayout part s e (λ items r said lack. elim said [
  | inl x ↦ no_mini part items SaysMini s r x
  | inr u ↦ elim u [
    | inl x ↦ elim lack [
      | inl w ↦ absurd (under_some 2 SaysConstant items s x w.0.1)
      | inr v ↦ elim v [
        | inl y ↦ no_mini part items FailsMini e r y
        | inr w ↦ elim w [
          | inl y ↦ under_both 2 SaysConstant FailsConstant items s e (λ bytes m n. constant_fails bytes s e m n) x y
          | inr y ↦ apart layouts part items 2 3 _ _ s e r (λ k. omega (arith, k)) refl refl x y
        ]
      ]
    ]
    | inr x ↦ elim lack [
      | inl w ↦ absurd (under_some 3 SaysZip items s x w.0.2)
      | inr v ↦ elim v [
        | inl y ↦ no_mini part items FailsMini e r y
        | inr w ↦ elim w [
          | inl y ↦ apart layouts part items 3 2 _ _ s e r (λ k. omega (arith, k)) refl refl x y
          | inr y ↦ under_both 3 SaysZip FailsZip items s e (λ bytes m n. zip_fails bytes s e m n) x y
        ]
      ]
    ]
  ]
]) p f

-- ---- pages

one_direct : (part : Placed) (s t : SaidLayout) → SaysDirect part s → SaysDirect part t → s ≡ t
one_direct part s t p q = under_one (open_to DIRECT_ENCODING) 1 SaysLayout one_layout part s t p q

one_encoding : (part : Placed) (s t : SaidLayout) → SaysEncoding part s → SaysEncoding part t → s ≡ t
one_encoding part s t p q = under_one (open_to ENCODING) 2 SaysDirect one_direct part s t p q

direct_fails : (part : Placed) (s : SaidLayout) (e : MetaFault) → SaysDirect part s → FailsDirect part e → e ≡ Memory
direct_fails part s e p f = reads_not_fails (fault_in message.DirectEncoding) (open_to DIRECT_ENCODING) (Under 1 SaysLayout) _ part s e (λ items r said lack. elim lack [
  | inl w ↦ absurd (under_some 1 SaysLayout items s said w.0)
  | inr w ↦ under_both 1 SaysLayout FailsLayout items s e (λ bytes m n. layout_fails bytes s e m n) said w
]) p f

encoding_fails : (part : Placed) (s : SaidLayout) (e : MetaFault) → SaysEncoding part s → FailsEncoding part e → e ≡ Memory
encoding_fails part s e p f = reads_not_fails (fault_in message.Encoding) (open_to ENCODING) (Under 2 SaysDirect) _ part s e (λ items r said lack. elim lack [
  | inl w ↦ absurd (under_some 2 SaysDirect items s said w.0)
  | inr w ↦ under_both 2 SaysDirect FailsDirect items s e (λ bytes m n. direct_fails bytes s e m n) said w
]) p f

one_page : (part : Placed) (s t : SaidPage) → SaysPage part s → SaysPage part t → s ≡ t
one_page part s t p q = reads_as_one (open_to PAGE) PageSaid part s t (λ items r a b.
    let layout : a.0 ≡ b.0 = under_both 4 SaysEncoding SaysEncoding items a.0 b.0 (λ bytes x y. one_encoding bytes a.0 b.0 x y) a.1 b.1 in
    a.2 ∙ (λ i. record { rows = num_under 3 items; offsets = nums_under 1 items; sizes = nums_under 2 items; layout = layout i }) ∙ sym b.2) p q

page_fails : (part : Placed) (s : SaidPage) (e : MetaFault) → SaysPage part s → FailsPage part e → e ≡ Memory
page_fails part s e p f = reads_not_fails (fault_in message.Page) (open_to PAGE) PageSaid LacksEncoding part s e (λ items r said lack. elim lack [
  | inl w ↦ w
  | inr t ↦ elim t [
    | inl w ↦ absurd (under_some 4 SaysEncoding items said.0 said.1 w.0)
    | inr w ↦ under_both 4 SaysEncoding FailsEncoding items said.0 e (λ bytes m n. encoding_fails bytes said.0 e m n) said.1 w
  ]
]) p f

breaks_none : (leaf : PlainLeaf) (end : ℕ) (page : SaidPage) (at : ℕ) (e : MetaFault) → Obeys leaf end page → BreaksRule leaf end page at e → ⊥
breaks_none leaf end page at (Layers place) o b = b.1 o.layers
breaks_none leaf end page at (Counts place) o b = b.2 o.counts
breaks_none leaf end page at (Values place) o b = b.3 o.values
breaks_none leaf end page at (Bits place) o b = b.4 o.bits
breaks_none leaf end page at (Region place) o b = b.5 o.region
breaks_none leaf end page at (Wire fault) o b = b
breaks_none leaf end page at (Unsupported m n k) o b = b
breaks_none leaf end page at (Missing m n) o b = b
breaks_none leaf end page at Memory o b = b

one_meta : (leaf : PlainLeaf) (end : ℕ) (part : Placed) (s t : PageMeta) → StandsForPage leaf end part s → StandsForPage leaf end part t → s ≡ t
one_meta leaf end part s t p q = p.is ∙ ap meta_of (one_page part p.whole q.whole p.said q.said) ∙ sym q.is

meta_fails : (leaf : PlainLeaf) (end : ℕ) (part : Placed) (s : PageMeta) (e : MetaFault) → StandsForPage leaf end part s → RefusesPage leaf end part e → e ≡ Memory
meta_fails leaf end part s e p f = elim f [
  | inl w ↦ w
  | inr t ↦ elim t [
    | inl w ↦ page_fails part p.whole e p.said w
    | inr w ↦ absurd (breaks_none leaf end w.whole part.base e (subst (Obeys leaf end) (one_page part p.whole w.whole p.said w.said) p.obeys) w.breaks)
  ]
]

-- ---- columns

pub one_column : (part : Placed) (leaf : PlainLeaf) (end : ℕ) (ps qs : List PageMeta) → ColumnOf part leaf end ps → ColumnOf part leaf end qs → ps ≡ qs
one_column part leaf end ps qs p q =
    reads_as_one (open_to COLUMN_METADATA) (PagesSaid leaf end) part ps qs (λ items r a b. read_each_one (StandsForPage leaf end) (one_meta leaf end) (parts_under 2 items) ps qs a b) p q

pub column_fails : (part : Placed) (leaf : PlainLeaf) (end : ℕ) (ps : List PageMeta) (e : MetaFault) → ColumnOf part leaf end ps → RefusesColumn part leaf end e → e ≡ Memory
column_fails part leaf end ps e p f = reads_not_fails (fault_in message.ColumnMetadata) (open_to COLUMN_METADATA) (PagesSaid leaf end) (PagesRefused leaf end) part ps e (λ items r said lack. elim lack [
  | inl w ↦ w
  | inr w ↦ read_each_meets (StandsForPage leaf end) (RefusesPage leaf end) e (λ bytes m x y. meta_fails leaf end bytes m e x y) (parts_under 2 items) ps said w
]) p f
