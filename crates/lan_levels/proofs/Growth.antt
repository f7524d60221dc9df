-- Facts for the code that makes slots.
use Rattle.std.proofs.Common.{◌≡◌, ℕ, zero, suc, ◌+◌, ◌<◌, ◌≤◌, List, [], ◌∷◌, ◌++◌, Result, Ok, Err, OnErr, length, reverse, get_or, refl, ap, sym, ◌∙◌, append_assoc, arith}
use Rattle.std.proofs.lemmas.Grind.{reverse_onto}
use Rattle.std.proofs.lemmas.List.{append-nil}
use Rattle.lan_model.specs.declared.tree.Layer.{Layer}
use Rattle.lan_model.specs.declared.tree.Layer.TheVariants as layer
use Rattle.lan_model.specs.declared.tree.Val.{Val}
use Rattle.lan_model.specs.Plain.{null, plain_value, plain_values}
use Rattle.lan_levels.specs.PlainSlots.{PlainSlot}
use Rattle.lan_levels.specs.SlotsOf.{lists_in, at_place, Grown, EndsWithPart}

lists_in-append : (xs ys : List Layer) → lists_in (xs ++ ys) ≡ lists_in xs + lists_in ys
lists_in-append [] ys = omega arith
lists_in-append (layer.Item n ∷ xs) ys = lists_in-append xs ys
lists_in-append (layer.Struct n m ∷ xs) ys = lists_in-append xs ys
lists_in-append (layer.List n ∷ xs) ys = omega (arith, lists_in-append xs ys)

last_lists : (l : Layer) (ls : List Layer) → lists_in (reverse (l ∷ ls)) ≡ lists_in (reverse ls) + lists_in (l ∷ [])
last_lists l ls = ap lists_in (reverse_onto ls l []) ∙ lists_in-append (reverse ls) (l ∷ [])

pub lists_in-reverse : (ls : List Layer) → lists_in (reverse ls) ≡ lists_in ls
lists_in-reverse [] = refl
lists_in-reverse (layer.Item n ∷ ls) = omega (arith, last_lists (layer.Item n) ls, lists_in-reverse ls)
lists_in-reverse (layer.Struct n m ∷ ls) = omega (arith, last_lists (layer.Struct n m) ls, lists_in-reverse ls)
lists_in-reverse (layer.List n ∷ ls) = omega (arith, last_lists (layer.List n) ls, lists_in-reverse ls)

pub at_place_within : (vals : List Val) (i : ℕ) (x : Val) → i < length vals → x ≡ get_or vals i x → at_place i (plain_values vals) ≡ plain_value x
at_place_within [] i x lt e = absurd (omega arith)
at_place_within (v ∷ vals) zero x lt e = ap plain_value (sym e)
at_place_within (v ∷ vals) (suc i) x lt e = at_place_within vals i x (omega arith) e

pub at_place_past : (vals : List Val) (i : ℕ) → length vals ≤ i → at_place i (plain_values vals) ≡ null
at_place_past [] i le = refl
at_place_past (v ∷ vals) zero le = absurd (omega arith)
at_place_past (v ∷ vals) (suc i) le = at_place_past vals i (omega arith)

-- nothing of the slots
pub none_of : (old new slots : List PlainSlot) → new ≡ old → EndsWithPart old new slots
none_of old new slots e = (slots, record { part = []; grown = e ∙ sym (append-nil old); front = refl })

-- at the start, all are left
pub Grown-none : (old slots : List PlainSlot) → Grown old old slots slots
Grown-none old slots = record { part = []; grown = sym (append-nil old); front = refl }

-- a whole part more
pub Grown-more : (old now new part left slots : List PlainSlot) → Grown old now (part ++ left) slots → new ≡ now ++ part → Grown old new left slots
Grown-more old now new part left slots h e = record {
  part = h.part ++ part;
  grown = e ∙ ap (λ (s : List PlainSlot). s ++ part) h.grown ∙ append_assoc old h.part part;
  front = append_assoc h.part part left ∙ h.front;
}

-- a front of the next part
pub Grown-part : (old now new part left slots : List PlainSlot) → Grown old now (part ++ left) slots → EndsWithPart now new part → EndsWithPart old new slots
Grown-part old now new part left slots h e =
    let more = e.1 in (
      e.0 ++ left,
      record {
        part = h.part ++ more.part;
        grown = more.grown ∙ ap (λ (s : List PlainSlot). s ++ more.part) h.grown ∙ append_assoc old h.part more.part;
        front = append_assoc h.part more.part (e.0 ++ left)
            ∙ ap (λ (s : List PlainSlot). h.part ++ s) (sym (append_assoc more.part e.0 left) ∙ ap (λ (s : List PlainSlot). s ++ left) more.front)
            ∙ h.front;
      },
    )

-- none are left
pub Grown-all : (old new slots : List PlainSlot) → Grown old new [] slots → new ≡ old ++ slots
Grown-all old new slots h = h.grown ∙ ap (λ (s : List PlainSlot). old ++ s) (sym (append-nil h.part) ∙ h.front)

pub OnErr-always : {T E : Type 0} (r : Result T E) (P : Type 0) → P → OnErr r P
OnErr-always (Ok x) P p = tt
OnErr-always (Err e) P p = p

-- of two lists of slots, a front of the first is a front of both
pub EndsWithPart-append : (old new front back : List PlainSlot) → EndsWithPart old new front → EndsWithPart old new (front ++ back)
EndsWithPart-append old new front back h =
    let more = h.1 in
    (h.0 ++ back, record { part = more.part; grown = more.grown; front = sym (append_assoc more.part h.0 back) ∙ ap (λ (s : List PlainSlot). s ++ back) more.front })

-- the first of two lists, and a front of the second
pub EndsWithPart-after : (old now new front back : List PlainSlot) → now ≡ old ++ front → EndsWithPart now new back → EndsWithPart old new (front ++ back)
EndsWithPart-after old now new front back e h =
    let more = h.1 in (
      h.0,
      record {
        part = front ++ more.part;
        grown = more.grown ∙ ap (λ (s : List PlainSlot). s ++ more.part) e ∙ append_assoc old front more.part;
        front = append_assoc front more.part h.0 ∙ ap (λ (s : List PlainSlot). front ++ s) more.front;
      },
    )
