-- Where a fault stands, reading fails with it, and no other fault and no item stands there.
use Rattle.std.proofs.Common.{◌≡◌, ℕ, zero, suc, ◌+◌, ◌/◌, ◌%◌, ◌<◌, ◌≤◌, true, ltb, eqb, List, [], ◌∷◌, ◌++◌, length, Ok, refl, sym, ap, subst, ◌∙◌, arith, ◌⊎◌, inl, inr}
use Rattle.std.specs.Prelude.{◌||◌}
use Rattle.std.proofs.lemmas.Bool.{le-ltb, lt-ltb}
use Rattle.std.proofs.lemmas.Bool.Decides.{nat_tests}
use Rattle.lan_wire.specs.declared.item.WireKind.{WireKind}
use Rattle.lan_wire.specs.declared.item.WireKind.TheVariants.{Cut, TooLong, BadType, BadNumber, WrongType, Twice, Range, NotText, Refused}
use Rattle.lan_wire.specs.declared.item.Body.{Body}
use Rattle.lan_wire.specs.declared.item.Item.{Item}
use Rattle.lan_wire.specs.Reading.{varint_in, varint_at, part_at, body_at, item_at, place_of}
use Rattle.lan_wire.specs.Spells.{IsGroups, wire_of, SpellsBody, Spells, Items}
use Rattle.lan_wire.specs.Faults.{NeverEnds, CutsVarint, LongVarint, BreaksVarint, Leads, LacksPart, LacksBody, HasBody, BreaksItem}
use Rattle.lan_wire.proofs.FrontItem.{number_again, body_again, item_again}
use Rattle.lan_wire.proofs.SpellingLaws.{moved_body, wire_moved, body_moved}
use Rattle.lan_wire.proofs.FaultLaws.{failed, err_is, ok_not_err}

cut_fails : (more : ℕ) (bytes : List ℕ) → NeverEnds bytes → length bytes ≤ more → varint_in more bytes ≡ failed Cut
unfolding varint_in
cut_fails more [] h short = refl
cut_fails zero (b ∷ bs) h short = absurd (omega (arith, short))
cut_fails (suc more) (b ∷ bs) h short = rw (le-ltb b 128 h.0, cut_fails more bs h.1 (omega (arith, short))) refl

long_fails : (more : ℕ) (front : List ℕ) (last : ℕ) (rest : List ℕ) → NeverEnds front → length front ≡ more → 1 < last → varint_in more (front ++ last ∷ rest) ≡ failed TooLong
unfolding varint_in
long_fails zero [] last rest h size large = rw (lt-ltb 1 last large) refl
long_fails zero (b ∷ bs) last rest h size large = absurd (omega (arith, size))
long_fails (suc more) [] last rest h size large = absurd (omega (arith, size))
long_fails (suc more) (b ∷ bs) last rest h size large = rw (le-ltb b 128 h.0, long_fails more bs last rest h.1 (omega (arith, size)) large) refl

cut_number : (bytes : List ℕ) → CutsVarint bytes → varint_at bytes ≡ failed Cut
unfolding varint_at
cut_number bytes h = cut_fails 9 bytes h.0 h.1

long_number : (bytes : List ℕ) → LongVarint bytes → varint_at bytes ≡ failed TooLong
unfolding varint_at
long_number bytes h = ap (varint_in 9) h.3 ∙ long_fails 9 h.0 h.1 h.2 h.4 h.5 h.6

pub breaks_fails : (bytes : List ℕ) (k : WireKind) → BreaksVarint k bytes → varint_at bytes ≡ failed k
breaks_fails bytes Cut h = cut_number bytes h.1
breaks_fails bytes TooLong h = long_number bytes h
breaks_fails bytes BadType h = absurd h
breaks_fails bytes BadNumber h = absurd h
breaks_fails bytes (WrongType n) h = absurd h
breaks_fails bytes (Twice n) h = absurd h
breaks_fails bytes (Range n) h = absurd h
breaks_fails bytes (NotText n) h = absurd h
breaks_fails bytes (Refused n) h = absurd h

pub breaks_something : (k : WireKind) → BreaksVarint k [] → ⊥
breaks_something Cut h = h.0 refl
breaks_something TooLong h = nothing h.0 h.1 h.2 h.3 where
  nothing : (front : List ℕ) (last : ℕ) (rest : List ℕ) → [] ≡ front ++ last ∷ rest → ⊥
  nothing [] last rest e = absurd cc
  nothing (b ∷ bs) last rest e = absurd cc
breaks_something BadType h = h
breaks_something BadNumber h = h
breaks_something (WrongType n) h = h
breaks_something (Twice n) h = h
breaks_something (Range n) h = h
breaks_something (NotText n) h = h
breaks_something (Refused n) h = h

pub led : (bytes : List ℕ) (n : ℕ) (rest : List ℕ) → Leads bytes n rest → varint_at bytes ≡ Ok (n, rest)
led bytes n rest l = ap varint_at l.1 ∙ number_again l.0 n rest l.2

num_fails : (at : ℕ) (bytes : List ℕ) (k : WireKind) → varint_at bytes ≡ failed k → body_at 0 at bytes ≡ failed k
unfolding body_at
num_fails at bytes k h = rw h refl

part_fails : (at : ℕ) (bytes : List ℕ) (k : WireKind) → varint_at bytes ≡ failed k → body_at 2 at bytes ≡ failed k
unfolding body_at part_at
part_fails at bytes k h = rw h refl

lacks_fails : (at : ℕ) (bytes : List ℕ) → LacksPart bytes → body_at 2 at bytes ≡ failed Cut
unfolding body_at part_at
lacks_fails at bytes h = rw (led bytes h.0 h.1 h.2, lt-ltb (length h.1) h.0 h.3) refl

eight_fails : (at : ℕ) (bytes : List ℕ) → length bytes < 8 → body_at 1 at bytes ≡ failed Cut
unfolding body_at
eight_fails at bytes h = rw (lt-ltb (length bytes) 8 h) refl

four_fails : (at : ℕ) (bytes : List ℕ) → length bytes < 4 → body_at 5 at bytes ≡ failed Cut
unfolding body_at
four_fails at bytes h = rw (lt-ltb (length bytes) 4 h) refl

abbrev BodyFails : ℕ → List ℕ → WireKind → ℕ → Type 0
BodyFails at bytes k wire = body_at wire at bytes ≡ failed k

lacking : (wire at : ℕ) (bytes : List ℕ) → LacksBody wire bytes → BodyFails at bytes Cut wire
lacking wire at bytes h = elim h [
  | inl w ↦ subst (BodyFails at bytes Cut) (sym w.0) (num_fails at bytes Cut (cut_number bytes w.1))
  | inr v ↦ elim v [
    | inl w ↦ subst (BodyFails at bytes Cut) (sym w.0) (eight_fails at bytes w.1)
    | inr u ↦ elim u [
      | inl w ↦ subst (BodyFails at bytes Cut) (sym w.0) (elim w.1 [
        | inl c ↦ part_fails at bytes Cut (cut_number bytes c)
        | inr c ↦ lacks_fails at bytes c
      ])
      | inr w ↦ subst (BodyFails at bytes Cut) (sym w.0) (four_fails at bytes w.1)
    ]
  ]
]

overlong : (wire at : ℕ) (bytes : List ℕ) → (wire ≡ 0) ⊎ (wire ≡ 2) → LongVarint bytes → BodyFails at bytes TooLong wire
overlong wire at bytes h l = elim h [
  | inl w ↦ subst (BodyFails at bytes TooLong) (sym w) (num_fails at bytes TooLong (long_number bytes l))
  | inr w ↦ subst (BodyFails at bytes TooLong) (sym w) (part_fails at bytes TooLong (long_number bytes l))
]

type_3 : (at : ℕ) (bytes : List ℕ) → BodyFails at bytes BadType 3
unfolding body_at
type_3 at bytes = refl

type_4 : (at : ℕ) (bytes : List ℕ) → BodyFails at bytes BadType 4
unfolding body_at
type_4 at bytes = refl

type_6 : (at : ℕ) (bytes : List ℕ) → BodyFails at bytes BadType 6
unfolding body_at
type_6 at bytes = refl

type_7 : (at : ℕ) (bytes : List ℕ) → BodyFails at bytes BadType 7
unfolding body_at
type_7 at bytes = refl

mistyped : (wire at : ℕ) (bytes : List ℕ) → (wire ≡ 3) ⊎ (wire ≡ 4) ⊎ (wire ≡ 6) ⊎ (wire ≡ 7) → BodyFails at bytes BadType wire
mistyped wire at bytes h = elim h [
  | inl w ↦ subst (BodyFails at bytes BadType) (sym w) (type_3 at bytes)
  | inr v ↦ elim v [
    | inl w ↦ subst (BodyFails at bytes BadType) (sym w) (type_4 at bytes)
    | inr u ↦ elim u [
      | inl w ↦ subst (BodyFails at bytes BadType) (sym w) (type_6 at bytes)
      | inr w ↦ subst (BodyFails at bytes BadType) (sym w) (type_7 at bytes)
    ]
  ]
]

-- a body can be read at any place
has_body : (wire at : ℕ) (bytes : List ℕ) → HasBody wire bytes → (x : Body × List ℕ) × (body_at wire at bytes ≡ Ok x)
has_body wire at bytes h =
    let there : SpellsBody (h.0 + 0) h.2 h.1 = subst (λ (n : ℕ). SpellsBody n h.2 h.1) (omega arith) h.6 in
    let here : SpellsBody at h.2 (moved_body h.0 at h.1) = subst (λ (n : ℕ). SpellsBody n h.2 (moved_body h.0 at h.1)) (omega arith) (body_moved h.0 at 0 h.2 h.1 there) in
    let read = body_again at h.2 h.3 (moved_body h.0 at h.1) here in
    ((moved_body h.0 at h.1, h.3), ap (λ (w : ℕ). body_at w at bytes) (h.5 ∙ sym (wire_moved h.0 at h.1)) ∙ ap (body_at (wire_of (moved_body h.0 at h.1)) at) h.4 ∙ read)

not_in_range : (n : ℕ) → (n ≡ 0) ⊎ (536870911 < n) → (eqb n 0 || ltb 536870911 n) ≡ true
not_in_range n h = elim h [
  | inl w ↦ grind (arith, nat_tests)
  | inr w ↦ grind (arith, nat_tests)
]

key_fails : (at : ℕ) (bytes : List ℕ) (k : WireKind) → varint_at bytes ≡ failed k → item_at at bytes ≡ failed k
unfolding item_at
key_fails at bytes k h = rw h refl

behind_fails : (at : ℕ) (bytes : List ℕ) (k : WireKind) (key : ℕ) (rest : List ℕ) → varint_at bytes ≡ Ok (key, rest) → BodyFails (place_of at bytes rest) rest k (key % 8) → item_at at bytes ≡ failed k
unfolding item_at
behind_fails at bytes k key rest l h = rw (l, h) refl

number_fails : (at : ℕ) (bytes : List ℕ) (key : ℕ) (rest : List ℕ) (x : Body × List ℕ) → varint_at bytes ≡ Ok (key, rest) → body_at (key % 8) (place_of at bytes rest) rest ≡ Ok x → (eqb (key / 8) 0 || ltb 536870911 (key / 8)) ≡ true → item_at at bytes ≡ failed BadNumber
unfolding item_at
number_fails at bytes key rest x l h out = rw (l, h, out) refl

pub fails : (at : ℕ) (bytes : List ℕ) (k : WireKind) → BreaksItem k bytes → item_at at bytes ≡ failed k
fails at bytes Cut s = elim s [
  | inl h ↦ key_fails at bytes Cut (cut_number bytes h.1)
  | inr h ↦ behind_fails at bytes Cut h.0 h.1 (led bytes h.0 h.1 h.2) (lacking (h.0 % 8) (place_of at bytes h.1) h.1 h.3)
]
fails at bytes TooLong s = elim s [
  | inl h ↦ key_fails at bytes TooLong (long_number bytes h)
  | inr h ↦ behind_fails at bytes TooLong h.0 h.1 (led bytes h.0 h.1 h.2) (overlong (h.0 % 8) (place_of at bytes h.1) h.1 h.3.0 h.3.1)
]
fails at bytes BadType s = behind_fails at bytes BadType s.0 s.1 (led bytes s.0 s.1 s.2) (mistyped (s.0 % 8) (place_of at bytes s.1) s.1 s.3)
fails at bytes BadNumber s =
    let b = has_body (s.0 % 8) (place_of at bytes s.1) s.1 s.3.0 in
    number_fails at bytes s.0 s.1 b.0 (led bytes s.0 s.1 s.2) b.1 (not_in_range (s.0 / 8) s.3.1)
fails at bytes (WrongType n) s = absurd s
fails at bytes (Twice n) s = absurd s
fails at bytes (Range n) s = absurd s
fails at bytes (NotText n) s = absurd s
fails at bytes (Refused n) s = absurd s

-- no fault at the end of a message
not_led : (bytes : List ℕ) (n : ℕ) (rest : List ℕ) → Leads bytes n rest → bytes ≡ [] → ⊥
not_led bytes n rest l e = nothing l.0 rest n l.2.groups (sym e ∙ l.1) where
  nothing : (front rest : List ℕ) (n : ℕ) → IsGroups front n → [] ≡ front ++ rest → ⊥
  nothing [] rest n g e = g
  nothing (b ∷ bs) rest n g e = absurd cc

stands_somewhere : (bytes : List ℕ) (k : WireKind) → BreaksItem k bytes → bytes ≡ [] → ⊥
stands_somewhere bytes Cut s e = elim s [
  | inl h ↦ h.0 e
  | inr h ↦ not_led bytes h.0 h.1 h.2 e
]
stands_somewhere bytes TooLong s e = elim s [
  | inl h ↦ breaks_something TooLong (subst (BreaksVarint TooLong) e h)
  | inr h ↦ not_led bytes h.0 h.1 h.2 e
]
stands_somewhere bytes BadType s e = not_led bytes s.0 s.1 s.2 e
stands_somewhere bytes BadNumber s e = not_led bytes s.0 s.1 s.2 e
stands_somewhere bytes (WrongType n) s e = s
stands_somewhere bytes (Twice n) s e = s
stands_somewhere bytes (Range n) s e = s
stands_somewhere bytes (NotText n) s e = s
stands_somewhere bytes (Refused n) s e = s

-- one fault at most
pub one_fault : (bytes : List ℕ) (j k : WireKind) → BreaksItem j bytes → BreaksItem k bytes → j ≡ k
one_fault bytes j k p q = err_is {A = Item × List ℕ} j k (sym (fails 0 bytes j p) ∙ fails 0 bytes k q)

-- and no item beside it
pub no_item : (bytes front rest : List ℕ) (k : WireKind) (item : Item) → BreaksItem k bytes → Spells front item → bytes ≡ front ++ rest → ⊥
no_item bytes front rest k item s p e = ok_not_err (item, rest) k (sym (item_again front rest item p) ∙ ap (item_at item.at) (sym e) ∙ fails item.at bytes k s)

-- and no list of items
pub no_items : (at : ℕ) (bytes : List ℕ) (k : WireKind) (items : List Item) → BreaksItem k bytes → Items at bytes items → ⊥
no_items at bytes k [] s p = stands_somewhere bytes k s p
no_items at bytes k (x ∷ xs) s p = no_item bytes p.0 p.1 k x s p.3 p.2
