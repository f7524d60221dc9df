-- The bytes of bools, one more at a time.
use Rattle.std.proofs.Common.{◌≡◌, ℕ, zero, suc, ◌+◌, ◌*◌, List, [], ◌∷◌, ◌++◌, Bool, take, drop, refl, ap, ap₂, sym, ◌∙◌, append_assoc, arith}
use Rattle.std.proofs.lemmas.List.{drop-drop, append-nil}
use Rattle.lan_levels.specs.BuiltValues.{byte_of, bool_bytes}

pub bool_more : (i : ℕ) (values : List Bool) → bool_bytes (i + 1) values ≡ bool_bytes i values ++ byte_of (take 8 (drop (8 * i) values)) ∷ []
unfolding bool_bytes
bool_more zero values = refl
bool_more (suc i) values =
    let s : suc i + 1 ≡ suc (i + 1) = omega arith in
    let e : 8 + 8 * i ≡ 8 * suc i = omega arith in
    let later : drop (8 * i) (drop 8 values) ≡ drop (8 * suc i) values = drop-drop (8 * i) 8 values ∙ ap (λ (k : ℕ). drop k values) e in
    ap (λ (k : ℕ). bool_bytes k values) s
    ∙ ap (λ (bs : List ℕ). byte_of (take 8 values) ∷ bs) (bool_more i (drop 8 values) ∙ ap (λ (bs : List Bool). bool_bytes i (drop 8 values) ++ byte_of (take 8 bs) ∷ []) later)

pub none_yet : (values : List Bool) (old : List ℕ) → old ≡ old ++ bool_bytes 0 values
unfolding bool_bytes
none_yet values old = sym (append-nil old)

pub one_more : (i n : ℕ) (values part : List Bool) (old out now : List ℕ) → out ≡ old ++ bool_bytes i values → part ≡ take 8 (drop (8 * i) values) → n ≡ byte_of part → now ≡ out ++ n ∷ [] → now ≡ old ++ bool_bytes (i + 1) values
one_more i n values part old out now h p b e =
    let byte : n ≡ byte_of (take 8 (drop (8 * i) values)) = b ∙ ap byte_of p in
    e
    ∙ ap₂ (λ (xs : List ℕ) (x : ℕ). xs ++ x ∷ []) h byte
    ∙ append_assoc old (bool_bytes i values) (byte_of (take 8 (drop (8 * i) values)) ∷ [])
    ∙ ap (λ (bs : List ℕ). old ++ bs) (sym (bool_more i values))
