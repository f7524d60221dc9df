-- Parts of parts, and numbers in them.
use Rattle.std.proofs.Common.{◌≡◌, sym, ◌∙◌, ap, ap₂, ℕ, zero, suc, ◌+◌, ◌-◌, ◌≤◌, List, length, take, drop, get_or, arith, length-drop}
use Rattle.std.proofs.lemmas.List.{drop-drop, drop-take, take-take, length-take-le, get_or-take, get_or-drop}
use Rattle.std.specs.Int.{w64, byte_worth, sum_through}
use Rattle.lan_bytes.specs.Numbers.{number_at}

-- a part of a part is a part of the whole
pub part-part : {X : Type 0} (bytes : List X) (at len from size : ℕ) → from + size ≤ len → take size (drop from (take len (drop at bytes))) ≡ take size (drop (at + from) bytes)
part-part {X} bytes at len from size within =
    let rest : from + (len - from) ≡ len = omega arith in
    let cut : drop from (take len (drop at bytes)) ≡ take (len - from) (drop from (drop at bytes)) = ap (λ (n : ℕ). drop from (take n (drop at bytes))) (sym rest) ∙ drop-take from (len - from) (drop at bytes) in
    ap (take size) cut ∙ take-take size (len - from) (drop from (drop at bytes)) (omega arith) ∙ ap (take size) (drop-drop from at bytes)

pub length-part : (bytes : List ℕ) (at len : ℕ) → at + len ≤ length bytes → length (take len (drop at bytes)) ≡ len
length-part bytes at len within = length-take-le len (drop at bytes) (omega (arith, length-drop at bytes))

sums_same : (f g : ℕ → ℕ) (n : ℕ) → ((i : ℕ) → i ≤ n → f i ≡ g i) → sum_through f n ≡ sum_through g n
sums_same f g zero h = h 0 (omega arith)
sums_same f g (suc n) h = ap₂ (λ (a b : ℕ). a + b) (sums_same f g n (λ i le. h i (omega arith))) (h (suc n) (omega arith))

-- a number in a part is one in the whole
pub number_part : (bytes : List ℕ) (at len n : ℕ) → n + 8 ≤ len → number_at w64 (take len (drop at bytes)) n ≡ number_at w64 bytes (at + n)
number_part bytes at len n within =
    sums_same _ _ 7 (λ i le. ap (byte_worth i) (get_or-drop n (take len (drop at bytes)) i 0 ∙ get_or-take len (drop at bytes) (n + i) 0 (omega arith) ∙ get_or-drop at bytes (n + i) 0 ∙ ap (λ (k : ℕ). get_or bytes k 0) (omega arith) ∙ sym (get_or-drop (at + n) bytes i 0)))
