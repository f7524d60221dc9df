-- The pages of a column keep to the rules for its leaf.
use Rattle.std.proofs.Common.{◌≡◌, ℕ, ◌+◌, ◌^◌, ◌≤◌, List, [], ◌∷◌, length, All, subst, sym, ◌∙◌, arith, inl, inr}
use Rattle.std.specs.List.{zip}
use Rattle.std.proofs.lemmas.List.{length-map}
use Rattle.std.proofs.lemmas.List.Elements.{All-nil, All-cons, All-weaker}
use Rattle.std.proofs.lemmas.Slice.Zip.{length-zip}
use Rattle.lan_bytes.specs.Placed.{Placed}
use Rattle.lan_model.specs.declared.range.Range.{Range}
use Rattle.lan_model.specs.Leaves.{PlainLeaf}
use Rattle.lan_wire.specs.Messages.{ReadEach}
use Rattle.lan_meta.specs.declared.encoding.SaidPage.{SaidPage}
use Rattle.lan_meta.specs.declared.layout.SaidLayout.{SaidLayout}
use Rattle.lan_meta.specs.declared.page.PageMeta.{PageMeta}
use Rattle.lan_meta.specs.Columns.{StandsForPage, ColumnOf}
use Rattle.lan_meta.specs.LayoutMessages.{SaysMini, SaysLayout}
use Rattle.lan_meta.specs.PageKeeps.{KeepsRules}
use Rattle.lan_meta.specs.PageMessages.{SaysPage}
use Rattle.lan_meta.specs.PageRules.{ranges_of}
use Rattle.lan_meta.specs.Stage.{IsStaged}
use Rattle.lan_meta.proofs.OneColumn.{no_mini}

staged_layout : (part : Placed) (said : SaidLayout) → SaysLayout part said → IsStaged said.layout
staged_layout part said s =
    let P : SaidLayout → Type 0 = λ l. IsStaged l.layout in
    elim s.said [
      | inl x ↦ no_mini part s.items SaysMini said s.reads x
      | inr t ↦ elim t [
        | inl x ↦ subst P (sym x.holds.said) tt
        | inr x ↦ subst P (sym x.holds.said.2) tt
      ]
    ]

staged_page : (part : Placed) (page : SaidPage) → SaysPage part page → IsStaged page.layout.layout
staged_page part page s =
    let direct = s.said.1.holds.said in
    let layout = direct.holds.said in
    let P : SaidPage → Type 0 = λ p. IsStaged p.layout.layout in
    subst P (sym s.said.2) (staged_layout layout.part s.said.0 layout.holds)

as_many : (xs ys : List ℕ) → length ys ≡ length xs → length (ranges_of xs ys) ≡ length xs
as_many xs ys e =
    let made = length-map (zip xs ys) (λ (p : ℕ × ℕ). let r : Range = record { at = p.0; len = p.1 } in r) in
    let both = length-zip xs ys in
    omega arith

keeps_one : (leaf : PlainLeaf) (end : ℕ) (part : Placed) (page : PageMeta) → end ≤ 2 ^ 63 → StandsForPage leaf end part page → KeepsRules leaf page
keeps_one leaf end part page le s =
    let o = s.obeys in
    let w = s.whole in
    subst (KeepsRules leaf) (sym s.is)
    (record {
      staged = staged_page part w s.said;
      layers = o.layers;
      some = o.counts.some;
      slots = o.counts.slots;
      alone = o.counts.alone;
      buffers = as_many w.offsets w.sizes o.counts.sizes ∙ o.counts.buffers;
      values = o.values;
      region = All-weaker (λ (b : Range). b.at + b.len ≤ end) (λ (b : Range). b.at + b.len ≤ 2 ^ 63) (λ b h. omega arith) (ranges_of w.offsets w.sizes) o.region;
    })

keep_each : (leaf : PlainLeaf) (end : ℕ) (parts : List Placed) (pages : List PageMeta) → end ≤ 2 ^ 63 → ReadEach (StandsForPage leaf end) parts pages → All (KeepsRules leaf) pages
keep_each leaf end [] pages le r = subst (All (KeepsRules leaf)) (sym r) (All-nil (KeepsRules leaf))
keep_each leaf end (part ∷ parts) pages le r =
    subst (All (KeepsRules leaf)) (sym r.2) (All-cons (KeepsRules leaf) r.0 r.1 (keeps_one leaf end part r.0 le r.3) (keep_each leaf end parts r.1 le r.4))

pub pages_keep : (part : Placed) (leaf : PlainLeaf) (end : ℕ) (pages : List PageMeta) → end ≤ 2 ^ 63 → ColumnOf part leaf end pages → All (KeepsRules leaf) pages
pages_keep part leaf end pages le c = keep_each leaf end _ pages le c.said
