-- The numbers of a header, read back.
use Rattle.std.proofs.Common.{◌≡◌, ◌∙◌, ℕ, ◌+◌, ◌*◌, ◌/◌, ◌<◌, ◌^◌, Bool, true, false, cond, IsTrue, List, [], ◌∷◌, ◌++◌, length, drop, refl, ap, sym, arith}
use Rattle.std.proofs.lemmas.List.{drop-drop}
use Rattle.std.proofs.lemmas.Nat.{from_le_bytes-to_le_bytes_2}
use Rattle.std.specs.Int.{w16}
use Rattle.lan_bytes.specs.Numbers.{low_first, number_at, numbers_of, numbers_from}
use Rattle.lan_levels.specs.ChunkSlots.{one_if}
use Rattle.lan_levels.specs.MiniWritten.{number_bytes}

pub num_here : (n : ℕ) (rest : List ℕ) → n < 2 ^ 16 → number_at w16 (low_first 2 n ++ rest) 0 ≡ n
num_here n rest lt = from_le_bytes-to_le_bytes_2 n lt

two_behind : (n : ℕ) (rest : List ℕ) → drop 2 (low_first 2 n ++ rest) ≡ rest
two_behind n rest = refl

pub num_next : (n k : ℕ) (rest : List ℕ) → number_at w16 (low_first 2 n ++ rest) (2 * (k + 1)) ≡ number_at w16 rest (2 * k)
num_next n k rest =
    let place : 2 * (k + 1) ≡ 2 + 2 * k = omega arith in
    ap (number_at w16 (low_first 2 n ++ rest)) place ∙ ap (λ (bs : List ℕ). number_at w16 bs 0) (sym (drop-drop (2 * k) 2 (low_first 2 n ++ rest)) ∙ ap (drop (2 * k)) (two_behind n rest))

pub num_skip : (a : Bool) (n k : ℕ) (rest : List ℕ) → number_at w16 (cond a (low_first 2 n) [] ++ rest) (2 * (k + one_if a)) ≡ number_at w16 rest (2 * k)
num_skip true n k rest = num_next n k rest
num_skip false n k rest = let e : k + 0 ≡ k = omega arith in ap (λ (j : ℕ). number_at w16 rest (2 * j)) e

pub num_stored : (a : Bool) (n : ℕ) (rest : List ℕ) → n < 2 ^ 16 → IsTrue a → number_at w16 (cond a (low_first 2 n) [] ++ rest) 0 ≡ n
num_stored true n rest lt t = num_here n rest lt
num_stored false n rest lt t = cc

-- the header's numbers, of which those of buffers that aren't stored are left out
pub record Heads (a b c : Bool) (n x y z : ℕ) (all : List ℕ) : Type 0 where
  pub count : number_at w16 all 0 ≡ n
  pub first : IsTrue a → number_at w16 all (2 * (0 + 1)) ≡ x
  pub second : IsTrue b → number_at w16 all (2 * (0 + one_if a + 1)) ≡ y
  pub third : IsTrue c → number_at w16 all (2 * (0 + one_if a + one_if b + 1)) ≡ z

pub heads : (a b c : Bool) (n x y z : ℕ) (rest : List ℕ) → n < 2 ^ 16 → x < 2 ^ 16 → y < 2 ^ 16 → z < 2 ^ 16
    → Heads a b c n x y z (low_first 2 n ++ (cond a (low_first 2 x) [] ++ (cond b (low_first 2 y) [] ++ (cond c (low_first 2 z) [] ++ rest))))
heads a b c n x y z rest ln lx ly lz =
    let r3 = cond c (low_first 2 z) [] ++ rest in
    let r2 = cond b (low_first 2 y) [] ++ r3 in
    let r1 = cond a (low_first 2 x) [] ++ r2 in
    let all = low_first 2 n ++ r1 in
    let p2 : 2 * (0 + one_if a + 1) ≡ 2 * (0 + one_if a + 1) = refl in
    let p3 : 2 * (0 + one_if a + one_if b + 1) ≡ 2 * (0 + one_if b + one_if a + 1) = omega arith in
    record {
      count = num_here n r1 ln;
      first = λ t. num_next n 0 r1 ∙ num_stored a x r2 lx t;
      second = λ t. num_next n (0 + one_if a) r1 ∙ num_skip a x 0 r2 ∙ num_stored b y r3 ly t;
      third = λ t. ap (number_at w16 all) p3 ∙ num_next n (0 + one_if b + one_if a) r1 ∙ num_skip a x (0 + one_if b) r2 ∙ num_skip b y 0 r3 ∙ num_stored c z rest lz t;
    }

abbrev pub EachBelow : ℕ → List ℕ → Type 0
EachBelow m [] = Unit {0}
EachBelow m (n ∷ ns) = (n < m) × EachBelow m ns

numbers_back_from : (ns : List ℕ) → EachBelow (2 ^ 16) ns → numbers_from w16 (length ns) (number_bytes 2 ns) ≡ ns
unfolding numbers_from
numbers_back_from [] h = refl
numbers_back_from (n ∷ ns) h =
    ap (λ (k : ℕ). k ∷ numbers_from w16 (length ns) (drop 2 (low_first 2 n ++ number_bytes 2 ns))) (num_here n (number_bytes 2 ns) h.0)
    ∙ ap (λ (bs : List ℕ). n ∷ numbers_from w16 (length ns) bs) (two_behind n (number_bytes 2 ns))
    ∙ ap (λ (ks : List ℕ). n ∷ ks) (numbers_back_from ns h.1)

pub numbers_back : (ns : List ℕ) → EachBelow (2 ^ 16) ns → length (number_bytes 2 ns) ≡ 2 * length ns → numbers_of w16 (number_bytes 2 ns) ≡ ns
unfolding numbers_of
numbers_back ns h e =
    let half : length (number_bytes 2 ns) / 2 ≡ length ns = omega arith in
    ap (λ (k : ℕ). numbers_from w16 k (number_bytes 2 ns)) half ∙ numbers_back_from ns h
