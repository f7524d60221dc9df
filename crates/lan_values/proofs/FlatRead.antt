-- Values of one width, read where they were put.
use Rattle.std.proofs.Common.{◌≡◌, ℕ, zero, suc, ◌+◌, ◌*◌, List, [], ◌∷◌, ◌++◌, Some, length, take, drop, map, slice_get, All, ap, sym, ◌∙◌, arith, length-append}
use Rattle.std.proofs.lemmas.List.{take_at, drop_at, drop-drop, length-map}
use Rattle.std.proofs.lemmas.List.Elements.{All-head, All-tail}
use Rattle.std.proofs.Math.Nat.{mul-suc}
use Rattle.std.specs.List.{concat}
use Rattle.lan_levels.specs.PlainSlots.{bytes}
use Rattle.lan_levels.specs.Values.{flat, value_at, ValuesOf}
use Rattle.lan_values.proofs.Each.{each_map}

abbrev Wide : ℕ → List ℕ → Type 0
Wide width v = length v ≡ width

flat_size : (width : ℕ) (values : List (List ℕ)) → All (Wide width) values → length (concat values) ≡ width * length values
flat_size width [] h = omega arith
flat_size width (v ∷ vs) h =
    let one : length v ≡ width = All-head (Wide width) v vs h in
    let later = flat_size width vs (All-tail (Wide width) v vs h) in
    omega (arith, length-append v (concat vs), mul-suc width (length vs))

flat_cut : (width : ℕ) (values : List (List ℕ)) (k : ℕ) (v : List ℕ) → All (Wide width) values → slice_get values k ≡ Some v → take width (drop (width * k) (concat values)) ≡ v
flat_cut width [] k v h e = absurd (cc)
flat_cut width (x ∷ vs) zero v h e =
    let same : x ≡ v = cc in
    let none : width * 0 ≡ 0 = omega arith in
    ap (λ (n : ℕ). take width (drop n (x ++ concat vs))) none ∙ take_at x (concat vs) width (All-head (Wide width) x vs h) ∙ same
flat_cut width (x ∷ vs) (suc k) v h e =
    let past : width * suc k ≡ width + width * k = omega (arith, mul-suc width k) in
    let later : drop (width * suc k) (x ++ concat vs) ≡ drop (width * k) (concat vs) =
    ap (λ (n : ℕ). drop n (x ++ concat vs)) past ∙ sym (drop-drop (width * k) width (x ++ concat vs)) ∙ ap (drop (width * k)) (drop_at x (concat vs) width (All-head (Wide width) x vs h)) in
    ap (take width) later ∙ flat_cut width vs k v (All-tail (Wide width) x vs h) e

pub flat_read : (width : ℕ) (values : List (List ℕ)) → All (Wide width) values → ValuesOf (flat width) (length values) (concat values) (map bytes values)
flat_read width values h = record {
  buffer = flat_size width values h;
  are = each_map bytes (value_at (flat width) (concat values)) 0 values
      (λ k v lt e. let z : 0 + k ≡ k = omega arith in ap (value_at (flat width) (concat values)) z ∙ ap bytes (flat_cut width values k v h e));
  count = length-map values bytes;
}
