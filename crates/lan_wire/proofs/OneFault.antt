-- A message has one fault at most.
use Rattle.std.proofs.Common.{◌≡◌, ◌⊎◌, ℕ, ◌+◌, List, [], ◌∷◌, ◌++◌, length, Result, Err, refl, sym, ap, subst, ◌∙◌, append_assoc, length-append, arith, inl, inr}
use Rattle.std.proofs.lemmas.List.{append_cancel_right}
use Rattle.lan_bytes.specs.Placed.{Placed}
use Rattle.lan_wire.specs.declared.item.WireKind.{WireKind}
use Rattle.lan_wire.specs.declared.item.WireFault.{WireFault}
use Rattle.lan_wire.specs.declared.item.Item.{Item}
use Rattle.lan_wire.specs.declared.item.NumsFault.TheVariants.{Wire}
use Rattle.lan_wire.specs.declared.item.Body.{Body}
use Rattle.lan_wire.specs.declared.item.Body.TheVariants.{Num, Eight, Four, Part}
use Rattle.lan_wire.specs.declared.rules.Kind.{Kind}
use Rattle.lan_wire.specs.declared.rules.Kind.TheVariants.{Number, Small, Signed, Flag, Text, Bytes, Message, OneOf, Numbers, SignedNumbers, Messages, Past, Refused}
use Rattle.lan_wire.specs.Faults.{BreaksItem}
use Rattle.lan_wire.specs.Readers.{LacksNumbers, NumbersFault}
use Rattle.lan_wire.specs.Rules.{Rules}
use Rattle.lan_wire.specs.Spells.{Spells, Items}
use Rattle.lan_wire.specs.Messages.{HasFault, MayNotFollow, Obey, FailsToRead}
use Rattle.lan_wire.proofs.FaultsHold.{one_fault as one_kind, no_item}
use Rattle.lan_wire.proofs.NumberLaws.{one_break}
use Rattle.lan_wire.proofs.SpellingLaws.{same_read}
use Rattle.lan_wire.proofs.OneReading.{numbers_or_not, read_or_fault, follows_or_not, obey_at}

abbrev bad : {A : Type 0} → WireFault → Result A WireFault
bad fault = Err fault

one_err : {A : Type 0} (r : Result A WireFault) (f g : WireFault) → r ≡ bad f → r ≡ bad g → f ≡ g
one_err {A} r f g p q = let both : bad {A = A} f ≡ bad {A = A} g = sym p ∙ q in cc

one_lack : (item : Item) (body : Body) (j k : WireKind) → LacksNumbers item j body → LacksNumbers item k body → j ≡ k
one_lack item (Num n) j k p q = absurd p
one_lack item (Eight n) j k p q = p ∙ sym q
one_lack item (Four n) j k p q = p ∙ sym q
one_lack item (Part part) j k p q = one_break part.bytes j k p q

same_fault : (f g : WireFault) → f.kind ≡ g.kind → f.at ≡ g.at → f ≡ g
same_fault f g p q = λ i. record { kind = p i; at = q i }

one_numbers : (item : Item) (f g : WireFault) → NumbersFault item (Wire f) → NumbersFault item (Wire g) → f ≡ g
one_numbers item f g p q = same_fault f g (one_lack item item.body f.kind g.kind p.1 q.1) (p.0 ∙ sym q.0)

one_of_kind : (kind : Kind) (item : Item) (f g : WireFault) → HasFault kind item f → HasFault kind item g → f ≡ g
one_of_kind Number item f g p q = one_err _ f g p q
one_of_kind Small item f g p q = one_err _ f g p q
one_of_kind Signed item f g p q = one_err _ f g p q
one_of_kind Flag item f g p q = one_err _ f g p q
one_of_kind Text item f g p q = one_err _ f g p q
one_of_kind Bytes item f g p q = one_err _ f g p q
one_of_kind Message item f g p q = one_err _ f g p q
one_of_kind OneOf item f g p q = one_err _ f g p q
one_of_kind Messages item f g p q = one_err _ f g p q
one_of_kind Numbers item f g p q = one_numbers item f g p q
one_of_kind SignedNumbers item f g p q = elim p [
  | inl v ↦ elim q [
    | inl w ↦ one_numbers item f g v w
    | inr w ↦ absurd (numbers_or_not item f item.body w.0 w.1 v.1)
  ]
  | inr v ↦ elim q [
    | inl w ↦ absurd (numbers_or_not item g item.body v.0 v.1 w.1)
    | inr w ↦ v.3 ∙ sym w.3
  ]
]
one_of_kind Past item f g p q = absurd p
one_of_kind Refused item f g p q = p ∙ sym q

one_refusal : (rules : Rules) (before : List Item) (item : Item) (f g : WireFault) → MayNotFollow rules before item f → MayNotFollow rules before item g → f ≡ g
one_refusal rules before item f g p q = elim p [
  | inl v ↦ elim q [
    | inl w ↦ one_of_kind _ item f g v w
    | inr w ↦ absurd (read_or_fault _ item f w.0 v)
  ]
  | inr v ↦ elim q [
    | inl w ↦ absurd (read_or_fault _ item g v.0 w)
    | inr w ↦ v.2 ∙ sym w.2
  ]
]

-- ---- two walks over one message

-- the second has gone further: it has an item that stands where the first has come to
record Further (at : ℕ) (left : List ℕ) (xs ys : List Item) : Type 0 where
  item : Item
  others : List Item
  front : List ℕ
  rest : List ℕ
  ys_are : ys ≡ xs ++ item ∷ others
  left_is : left ≡ front ++ rest
  spelled : Spells front item
  place : item.at ≡ at

record Level (xs ys : List Item) (r s a b : List ℕ) : Type 0 where
  items : xs ≡ ys
  left : r ≡ s
  front : a ≡ b

abbrev Compared : ℕ → List ℕ → List ℕ → List ℕ → List ℕ → List Item → List Item → Type 0
Compared at a b r s xs ys = Level xs ys r s a b ⊎ Further (at + length a) r xs ys ⊎ Further (at + length b) s ys xs

further : (at : ℕ) (left : List ℕ) (y : Item) (ys : List Item) (q0 q1 rb : List ℕ) → left ≡ q0 ++ (q1 ++ rb) → Spells q0 y → y.at ≡ at → Further at left [] (y ∷ ys)
further at left y ys q0 q1 rb e s place = record { item = y; others = ys; front = q0; rest = q1 ++ rb; ys_are = refl; left_is = e; spelled = s; place = place }

same_cons : (x y : Item) (xs ys : List Item) → x ≡ y → xs ≡ ys → x ∷ xs ≡ y ∷ ys
same_cons x y xs ys p q = λ i. p i ∷ q i

further_cons : (at here : ℕ) (left : List ℕ) (x y : Item) (xs ys : List Item) → y ≡ x → at ≡ here → Further at left xs ys → Further here left (x ∷ xs) (y ∷ ys)
further_cons at here left x y xs ys is place f = record {
  item = f.item;
  others = f.others;
  front = f.front;
  rest = f.rest;
  ys_are = same_cons y x ys (xs ++ f.item ∷ f.others) is f.ys_are;
  left_is = f.left_is;
  spelled = f.spelled;
  place = f.place ∙ place;
}

compared : (at : ℕ) (a b r s : List ℕ) (xs ys : List Item) → Items at a xs → Items at b ys → a ++ r ≡ b ++ s → Compared at a b r s xs ys
compared at a b r s [] [] p q e = inl (record {
  items = refl;
  left = ap (λ (t : List ℕ). t ++ r) (sym p) ∙ e ∙ ap (λ (t : List ℕ). t ++ s) q;
  front = p ∙ sym q;
})
compared at a b r s [] (y ∷ ys) p q e =
    let left : r ≡ q.0 ++ (q.1 ++ s) = ap (λ (t : List ℕ). t ++ r) (sym p) ∙ e ∙ ap (λ (t : List ℕ). t ++ s) q.2 ∙ append_assoc q.0 q.1 s in
    inr (inl (further (at + length a) r y ys q.0 q.1 s left q.3 (omega (arith, q.4, ap length p))))
compared at a b r s (x ∷ xs) [] p q e =
    let left : s ≡ p.0 ++ (p.1 ++ r) = ap (λ (t : List ℕ). t ++ s) (sym q) ∙ sym e ∙ ap (λ (t : List ℕ). t ++ r) p.2 ∙ append_assoc p.0 p.1 r in
    inr (inr (further (at + length b) s x xs p.0 p.1 r left p.3 (omega (arith, p.4, ap length q))))
compared at a b r s (x ∷ xs) (y ∷ ys) p q e =
    let whole : p.0 ++ (p.1 ++ r) ≡ q.0 ++ (q.1 ++ s) = sym (append_assoc p.0 p.1 r) ∙ ap (λ (t : List ℕ). t ++ r) (sym p.2) ∙ e ∙ ap (λ (t : List ℕ). t ++ s) q.2 ∙ append_assoc q.0 q.1 s in
    let same = same_read p.0 q.0 (p.1 ++ r) (q.1 ++ s) x y p.3 q.3 (p.4 ∙ sym q.4) whole in
    let fronts : p.0 ≡ q.0 = append_cancel_right p.0 q.0 (p.1 ++ r) (whole ∙ ap (λ (t : List ℕ). q.0 ++ t) (sym same.1)) in
    let others : Items (at + length p.0) q.1 ys = subst (λ (f : List ℕ). Items (at + length f) q.1 ys) (sym fronts) q.5 in
    let c = compared (at + length p.0) p.1 q.1 r s xs ys p.5 others same.1 in
    let left_a : at + length p.0 + length p.1 ≡ at + length a = omega (arith, ap length p.2, length-append p.0 p.1) in
    let left_b : at + length p.0 + length q.1 ≡ at + length b = omega (arith, ap length q.2, length-append q.0 q.1, ap length fronts) in
    elim c [
      | inl l ↦ inl (record { items = same_cons x y xs ys same.0 l.items; left = l.left; front = p.2 ∙ ap (λ (t : List ℕ). t ++ p.1) fronts ∙ ap (λ (t : List ℕ). q.0 ++ t) l.front ∙ sym q.2 })
      | inr w ↦ elim w [
        | inl f ↦ inr (inl (further_cons (at + length p.0 + length p.1) (at + length a) r x y xs ys (sym same.0) left_a f))
        | inr f ↦ inr (inr (further_cons (at + length p.0 + length q.1) (at + length b) s y x ys xs same.0 left_b f))
      ]
    ]

-- where one walk has a fault, no other goes further
not_further : (rules : Rules) (message : Placed) (f : WireFault) (p : FailsToRead rules message f) (ys : List Item) → Obey rules [] ys → Further (message.base + length p.given.front) p.left.bytes p.before ys → ⊥
not_further rules message f p ys obey h = elim p.breaks [
  | inl v ↦ no_item p.left.bytes h.front h.rest f.kind h.item v.0 h.spelled h.left_is
  | inr v ↦
      let same = same_read h.front v.2.front h.rest v.1.bytes h.item v.0 h.spelled v.2.spelled (h.place ∙ sym p.given.place ∙ sym v.2.place) (sym h.left_is ∙ v.2.parts) in
      let may = obey_at rules [] p.before h.item h.others (subst (Obey rules []) h.ys_are obey) in
      follows_or_not rules p.before h.item f may (subst (λ (x : Item). MayNotFollow rules p.before x f) (sym same.0) v.3)
]

level : (rules : Rules) (message : Placed) (f g : WireFault) (p : FailsToRead rules message f) (q : FailsToRead rules message g) → Level p.before q.before p.left.bytes q.left.bytes p.given.front q.given.front → f ≡ g
level rules message f g p q l =
    let place : p.left.base ≡ q.left.base = omega (arith, p.given.place, q.given.place, ap length l.front) in
    elim p.breaks [
      | inl v ↦ elim q.breaks [
        | inl w ↦ same_fault f g (one_kind p.left.bytes f.kind g.kind v.0 (subst (BreaksItem g.kind) (sym l.left) w.0)) (v.1 ∙ place ∙ sym w.1)
        | inr w ↦ absurd (no_item p.left.bytes w.2.front w.1.bytes f.kind w.0 v.0 w.2.spelled (l.left ∙ w.2.parts))
      ]
      | inr v ↦ elim q.breaks [
        | inl w ↦ absurd (no_item q.left.bytes v.2.front v.1.bytes g.kind v.0 w.0 v.2.spelled (sym l.left ∙ v.2.parts))
        | inr w ↦
            let same = same_read v.2.front w.2.front v.1.bytes w.1.bytes v.0 w.0 v.2.spelled w.2.spelled (v.2.place ∙ place ∙ sym w.2.place) (sym v.2.parts ∙ l.left ∙ w.2.parts) in
            let there = subst (λ (x : Item). MayNotFollow rules p.before x g) (sym same.0) (subst (λ (xs : List Item). MayNotFollow rules xs w.0 g) (sym l.items) w.3) in
            one_refusal rules p.before v.0 f g v.3 there
      ]
    ]

pub one_failure : (rules : Rules) (message : Placed) (f g : WireFault) → FailsToRead rules message f → FailsToRead rules message g → f ≡ g
one_failure rules message f g p q =
    elim (compared message.base p.given.front q.given.front p.left.bytes q.left.bytes p.before q.before p.given.items q.given.items (sym p.given.parts ∙ q.given.parts)) [
      | inl l ↦ level rules message f g p q l
      | inr w ↦ elim w [
        | inl h ↦ absurd (not_further rules message f p q.before q.obeyed h)
        | inr h ↦ absurd (not_further rules message g q p.before p.obeyed h)
      ]
    ]
