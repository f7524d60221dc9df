-- Parts of bytes that are put together, and parts of parts.
use Rattle.std.proofs.Common.{◌≡◌, refl, sym, ◌∙◌, ap, ℕ, zero, suc, ◌+◌, ◌-◌, ◌≤◌, List, [], ◌∷◌, ◌++◌, length, take, drop, arith, length-drop}
use Rattle.std.proofs.Math.Seq.{drop-append-add, take-append_seam}
use Rattle.std.proofs.lemmas.List.{drop-drop, drop-take, length-take-le}
use Rattle.lan_file.specs.Parts.{part}

-- what lies behind a front lies so far behind it in the whole
pub part-past : (xs ys : List ℕ) (at k len : ℕ) → at ≡ length xs + k → part (xs ++ ys) at len ≡ part ys k len
part-past xs ys at k len is = ap (λ (n : ℕ). take len (drop n (xs ++ ys))) is ∙ ap (take len) (drop-append-add xs ys k)

-- the front is a part
pub part-front : (xs ys : List ℕ) (len : ℕ) → len ≡ length xs → part (xs ++ ys) 0 len ≡ xs
part-front xs ys len is = ap (λ (n : ℕ). take n (xs ++ ys)) is ∙ take-append_seam xs ys

-- what lies behind a front and before the rest is a part
pub part-here : (xs ys zs : List ℕ) (at len : ℕ) → at ≡ length xs → len ≡ length ys → part (xs ++ (ys ++ zs)) at len ≡ ys
part-here xs ys zs at len is size = part-past xs (ys ++ zs) at 0 len (omega (arith, is)) ∙ part-front ys zs len size

-- a part of a part is a part of the whole
pub part-part : (bytes : List ℕ) (at len from at_whole size : ℕ) → from + size ≤ len → at_whole ≡ at + from → part (part bytes at len) from size ≡ part bytes at_whole size
part-part bytes at len from at_whole size within is =
    let rest : from + (len - from) ≡ len = omega (arith, within) in
    let cut : drop from (take len (drop at bytes)) ≡ take (len - from) (drop from (drop at bytes)) =
    ap (λ (n : ℕ). drop from (take n (drop at bytes))) (sym rest) ∙ drop-take from (len - from) (drop at bytes) in
    let more : size + (len - from - size) ≡ len - from = omega (arith, within) in
    ap (take size) cut ∙ take_less size (len - from) (drop from (drop at bytes)) (omega (arith, within)) ∙ ap (take size) (drop-drop from at bytes ∙ ap (λ (n : ℕ). drop n bytes) (sym is)) where
      take_less : (n m : ℕ) (xs : List ℕ) → n ≤ m → take n (take m xs) ≡ take n xs
      take_less zero m xs below = refl
      take_less (suc n) zero xs below = absurd (omega (arith, below))
      take_less (suc n) (suc m) [] below = refl
      take_less (suc n) (suc m) (x ∷ xs) below = ap (λ (l : List ℕ). x ∷ l) (take_less n m xs (omega (arith, below)))

-- a part within the whole is as long as was asked
pub length-part : (bytes : List ℕ) (at len : ℕ) → at + len ≤ length bytes → length (part bytes at len) ≡ len
length-part bytes at len within = length-take-le len (drop at bytes) (omega (arith, length-drop at bytes))
