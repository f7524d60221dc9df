-- What is written is spelled.
use Rattle.std.proofs.Common.{◌≡◌, ℕ, zero, suc, ◌+◌, ◌*◌, ◌-◌, ◌/◌, ◌%◌, ◌^◌, ◌<◌, ◌≤◌, true, false, cond, ltb, rules, List, [], ◌∷◌, ◌++◌, length, Result, Ok, Err, refl, sym, subst, arith, inl, inr}
use Rattle.std.proofs.Math.Nat.{pow-suc}
use Rattle.std.specs.Prelude.{IsTrue, ℤ, pos, negsuc}
use Rattle.std.specs.Str.{is_utf8}
use Rattle.std.proofs.lemmas.Bool.{cases_lt, lt-ltb, le-ltb, ltb-true, ltb-false}
use Rattle.std.specs.List.{flat_map, AllByRecursion}
use Rattle.std.proofs.lemmas.List.Concat.{flat_map-cons}
use Rattle.lan_wire.specs.declared.item.WireFault.{WireFault}
use Rattle.lan_wire.specs.Readers.{AreNumbers, IsInt32, out_of_range, signed_of, text_of}
use Rattle.lan_wire.specs.Spelling.{varint_within, varint, num_item, part_item, packed_field, two_complement, key}
use Rattle.lan_wire.specs.Spells.{IsGroups, IsVarint, Spells, numbered, part_placed}
use Rattle.lan_wire.proofs.FrontVarint.{chosen, more_groups}
use Rattle.lan_wire.proofs.Varints.{varint_done, varint_step}

record Grouped (bytes : List ℕ) (n more : ℕ) : Type 0 where
  pub groups : IsGroups bytes n
  pub short : length bytes ≤ suc more

groups_of : (k n : ℕ) → n < 128 ^ suc k → Grouped (varint_within k n) n k
groups_of zero n small =
    let below : n < 128 = omega arith in
    subst (λ (b : List ℕ). Grouped b n 0) (sym (varint_done 0 n below)) (record { groups = (below, refl); short = omega arith })
groups_of (suc k) n small = elim (cases_lt n 128) [
  | inl below ↦ subst (λ (b : List ℕ). Grouped b n (suc k)) (sym (varint_done (suc k) n below)) (record { groups = (below, refl); short = omega arith })
  | inr large ↦
      let rest : n / 128 < 128 ^ suc k = omega (arith, pow-suc 128 (suc k)) in
      let g = groups_of k (n / 128) rest in
      let sum : (n % 128 + 128) % 128 + 128 * (n / 128) ≡ n = omega arith in
      let more = more_groups (n % 128 + 128) (varint_within k (n / 128)) (n / 128) (omega arith) (omega arith) g.groups in
      subst (λ (b : List ℕ). Grouped b n (suc k)) (sym (varint_step k n large)) (record { groups = subst (IsGroups ((n % 128 + 128) ∷ varint_within k (n / 128))) sum more; short = omega (arith, g.short) })
]

pub varint_spelled : (n : ℕ) → n < 2 ^ 64 → IsVarint (varint n) n
unfolding varint
varint_spelled n small =
    let g = groups_of 9 n (omega arith) in
    record { groups = g.groups; short = omega (arith, g.short); fits = small }

pub number_spelled : (at number value : ℕ) → 0 < number → number < 2 ^ 29 → value < 2 ^ 64 → Spells (num_item number value) (numbered at number value)
number_spelled at number value low up small = record {
  key = key number 0;
  body = varint value;
  parts = refl;
  is_key = varint_spelled (number * 8 + 0) (omega (arith, up));
  is_body = varint_spelled value small;
  least = low;
  greatest = up;
}

pub part_spelled : (at number : ℕ) (bytes : List ℕ) → 0 < number → number < 2 ^ 29 → length bytes < 2 ^ 64 → Spells (part_item number bytes) (part_placed at number bytes)
part_spelled at number bytes low up small = record {
  key = key number 2;
  body = varint (length bytes) ++ bytes;
  parts = refl;
  is_key = varint_spelled (number * 8 + 2) (omega (arith, up));
  is_body = (varint (length bytes), varint_spelled (length bytes) small, refl, refl);
  least = low;
  greatest = up;
}

pub list_spelled : (values : List ℕ) → AllByRecursion (λ n. n < 2 ^ 64) values → AreNumbers (flat_map varint values) values
list_spelled [] h = refl
list_spelled (v ∷ vs) h = (varint v, flat_map varint vs, flat_map-cons varint v vs, varint_spelled v h.0, list_spelled vs h.1)

pub packed_spelled : (at number v : ℕ) (vs : List ℕ) → 0 < number → number < 2 ^ 29 → length (flat_map varint (v ∷ vs)) < 2 ^ 64 → Spells (packed_field number (v ∷ vs)) (part_placed at number (flat_map varint (v ∷ vs)))
packed_spelled at number v vs low up small = part_spelled at number (flat_map varint (v ∷ vs)) low up small

pub below_64 : (z : ℤ) → IsInt32 z → two_complement z < 2 ^ 64
below_64 (pos n) h = omega (arith, h)
below_64 (negsuc n) h = omega (arith, h)

pub signed_again : (at number : ℕ) (z : ℤ) → IsInt32 z → signed_of (numbered at number (two_complement z)) ≡ Ok z
signed_again at number (pos n) h = rw (lt-ltb n (2 ^ 31) h) refl
signed_again at number (negsuc n) h =
    let large : ltb (2 ^ 64 - 1 - n) (2 ^ 31) ≡ false = le-ltb _ _ (omega (arith, h)) in
    let high : ltb (2 ^ 64 - 1 - n) (2 ^ 64 - 2 ^ 31) ≡ false = le-ltb _ _ (omega (arith, h)) in
    let back : 2 ^ 64 - 1 - (2 ^ 64 - 1 - n) ≡ n = omega (arith, h) in
    rw (large, high, back) refl

-- the number with a sign that these 64 bits stand for
abbrev StandsFor : ℕ → ℤ → Type 0
StandsFor n z = IsInt32 z × (n ≡ two_complement z)

abbrev given : ℤ → Result ℤ WireFault
given z = Ok z

abbrev refused : WireFault → Result ℤ WireFault
refused fault = Err fault

given_is : (y z : ℤ) → given y ≡ given z → y ≡ z
given_is y z e = cc

given_not_refused : (fault : WireFault) (z : ℤ) → refused fault ≡ given z → ⊥
given_not_refused fault z e = absurd cc

pub signed_only : (at number n : ℕ) (z : ℤ) → n < 2 ^ 64 → signed_of (numbered at number n) ≡ Ok z → StandsFor n z
signed_only at number n z small e =
    let wrong : WireFault = out_of_range (numbered at number n) in
    elim (chosen (ltb n (2 ^ 31)) (given (pos n)) (cond (ltb n (2 ^ 64 - 2 ^ 31)) (refused wrong) (given (negsuc (2 ^ 64 - 1 - n)))) (given z) e) [
      | inl w ↦ subst (StandsFor n) (given_is (pos n) z w.1) (ltb-true n (2 ^ 31) w.0, refl)
      | inr w ↦ elim (chosen (ltb n (2 ^ 64 - 2 ^ 31)) (refused wrong) (given (negsuc (2 ^ 64 - 1 - n))) (given z) w.1) [
        | inl v ↦ absurd (given_not_refused wrong z v.1)
        | inr v ↦
            let large : 2 ^ 64 - 2 ^ 31 ≤ n = ltb-false n (2 ^ 64 - 2 ^ 31) v.0 in
            subst (StandsFor n) (given_is (negsuc (2 ^ 64 - 1 - n)) z v.1) (omega (arith, large, small), omega (arith, small))
      ]
    ]

pub text_again : (at number : ℕ) (text : List ℕ) → IsTrue (is_utf8 text) → text_of (part_placed at number text) ≡ Ok text
text_again at number text h = let e : is_utf8 text ≡ true = search rules in rw e refl
