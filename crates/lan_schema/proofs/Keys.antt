-- Numbers and names as keys.
use Rattle.std.proofs.Common.{◌≡◌, ℕ, Bool, List, refl, sym, ap, ◌∙◌, arith}
use Rattle.std.specs.Prelude.{ℤ, ◌&&◌}
use Rattle.std.specs.declared.cmp.Ordering.{Ordering}
use Rattle.std.specs.declared.cmp.Ordering.TheVariants.{Less, Equal, Greater}
use Rattle.std.specs.Cmp.{int_ranks}
use Rattle.std.specs.Ordering.{int_cmp, nat_cmp, is_eq, ordering_then, MatchOrdering}
use Rattle.std.proofs.Common.{◌<ℤ◌}
use Rattle.std.proofs.lemmas.Int.{ints}
use Rattle.std.specs.Cmp.Lexicographic.{slice_cmp}
use Rattle.std.specs.Str.{bytes_eq}
use Rattle.std.proofs.lemmas.Map.Text.{is_eq-slice_cmp}
use Rattle.lan_schema.specs.Forest.{same}
use Rattle.lan_schema.proofs.ForestLaws.{same_self, same_other}

less_other : (x y : ℤ) → x <ℤ y → x ≡ y → ⊥
less_other x y lt e = omega (arith, ints)

greater_other : (x y : ℤ) → y <ℤ x → x ≡ y → ⊥
greater_other x y gt e = omega (arith, ints)

ranked : (x y : ℤ) (o : Ordering) → MatchOrdering o (x <ℤ y) (x ≡ y) (y <ℤ x) → is_eq o ≡ same x y
ranked x y Less h = sym (same_other x y (less_other x y h))
ranked x y Equal h = sym (ap (λ (z : ℤ). same z y) h ∙ same_self y)
ranked x y Greater h = sym (same_other x y (greater_other x y h))

-- whether two numbers compare as equal
pub same_key : (x y : ℤ) → is_eq (int_cmp x y) ≡ same x y
same_key x y = ranked x y (int_cmp x y) (int_ranks x y)

then_is : (a b : Ordering) → is_eq (ordering_then a b) ≡ (is_eq a && is_eq b)
then_is Less b = refl
then_is Equal b = refl
then_is Greater b = refl

-- whether two pairs of a number and a name compare as equal
pub same_pair : (x y : ℤ) (a b : List ℕ) → is_eq (ordering_then (int_cmp x y) (slice_cmp nat_cmp a b)) ≡ (same x y && bytes_eq a b)
same_pair x y a b = then_is (int_cmp x y) (slice_cmp nat_cmp a b) ∙ ap (λ (t : Bool). t && is_eq (slice_cmp nat_cmp a b)) (same_key x y) ∙ ap (λ (t : Bool). same x y && t) (is_eq-slice_cmp a b)
