-- One byte of a varint at a time.
use Rattle.std.proofs.Common.{◌≡◌, inl, inr, refl, ap, sym, ◌∙◌, ℕ, zero, suc, ◌+◌, ◌*◌, ◌/◌, ◌%◌, ◌^◌, ◌<◌, ◌≤◌, List, [], ◌∷◌, ◌++◌, length, length-append, drop, get_or, map, pos, arith}
use Rattle.std.specs.Prelude.{ℤ}
use Rattle.std.proofs.lemmas.List.{drop_more}
use Rattle.std.proofs.Math.Nat.{pow-suc}
use Rattle.std.proofs.lemmas.Bool.{cases_lt}
use Rattle.std.proofs.lemmas.Bool.Decides.{nat_tests}
use Rattle.std.specs.List.{flat_map}
use Rattle.std.proofs.lemmas.List.Concat.{flat_map-cons}
use Rattle.lan_wire.specs.Spelling.{varint_within, varint, two_complement}

pub varint_done : (k n : ℕ) → n < 128 → varint_within k n ≡ n ∷ []
unfolding varint_within
varint_done zero n small = refl
varint_done (suc k) n small = grind (arith, nat_tests)

pub varint_step : (k n : ℕ) → 128 ≤ n → varint_within (suc k) n ≡ (n % 128 + 128) ∷ varint_within k (n / 128)
unfolding varint_within
varint_step k n large = grind (arith, nat_tests)

-- bytes enough are as good as one more
enough : (k n : ℕ) → n < 128 ^ suc k → varint_within k n ≡ varint_within (suc k) n
enough zero n small = let below : n < 128 = omega arith in varint_done 0 n below ∙ sym (varint_done 1 n below)
enough (suc k) n small = elim (cases_lt n 128) [
  | inl below ↦ varint_done (suc k) n below ∙ sym (varint_done (suc (suc k)) n below)
  | inr large ↦
      let rest : n / 128 < 128 ^ suc k = omega (arith, pow-suc 128 (suc k)) in
      varint_step k n large ∙ ap (λ (l : List ℕ). (n % 128 + 128) ∷ l) (enough k (n / 128) rest) ∙ sym (varint_step (suc k) n large)
]

pub varint_last : (n : ℕ) → n < 128 → varint n ≡ n ∷ []
unfolding varint
varint_last n small = varint_done 9 n small

pub varint_more : (n : ℕ) → 128 ≤ n → n < 2 ^ 64 → varint n ≡ (n % 128 + 128) ∷ varint (n / 128)
unfolding varint
varint_more n large small = varint_step 8 n large ∙ ap (λ (l : List ℕ). (n % 128 + 128) ∷ l) (enough 8 (n / 128) (omega arith))

pub length-varint_last : (n : ℕ) → n < 128 → length (varint n) ≡ 1
length-varint_last n small = ap length (varint_last n small)

pub length-varint_more : (n : ℕ) → 128 ≤ n → n < 2 ^ 64 → length (varint n) ≡ length (varint (n / 128)) + 1
length-varint_more n large small = omega (arith, ap length (varint_more n large small))

varint_lone : (n : ℕ) → varint_within zero n ≡ n ∷ []
unfolding varint_within
varint_lone n = refl

length-varint_within : (k n : ℕ) → length (varint_within k n) ≤ suc k
length-varint_within zero n = omega (arith, ap length (varint_lone n))
length-varint_within (suc k) n = elim (cases_lt n 128) [
  | inl below ↦ omega (arith, ap length (varint_done (suc k) n below))
  | inr large ↦ omega (arith, ap length (varint_step k n large), length-varint_within k (n / 128))
]

pub length-varint : (n : ℕ) → length (varint n) ≤ 10
unfolding varint
length-varint n = length-varint_within 9 n

pub length-flat_map : (ns : List ℕ) → length (flat_map varint ns) ≤ 10 * length ns
length-flat_map [] = omega arith
length-flat_map (n ∷ ns) = omega (arith, ap length (flat_map-cons varint n ns), length-append (varint n) (flat_map varint ns), length-varint n, length-flat_map ns)

-- numbers with a sign from a place on
pub signed_drop : (zs : List ℤ) (i : ℕ) → i < length zs → flat_map varint (map two_complement (drop i zs)) ≡ varint (two_complement (get_or zs i (pos 0))) ++ flat_map varint (map two_complement (drop (i + 1) zs))
signed_drop zs i lt =
    ap (λ (ys : List ℤ). flat_map varint (map two_complement ys)) (drop_more zs i (pos 0) lt)
    ∙ flat_map-cons varint (two_complement (get_or zs i (pos 0))) (map two_complement (drop (i + 1) zs))

pub ruleset varint_lengths = (length-varint_last, length-varint_more, length-varint)
