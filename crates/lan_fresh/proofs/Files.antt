-- The data files that are held, and the numbers of their names.
use Rattle.std.proofs.Common.{◌≡◌, inl, inr, refl, ap, subst, ℕ, zero, suc, ◌^◌, ◌<◌, ◌≤◌, List, [], ◌∷◌, arith}
use Rattle.std.specs.Prelude.{Option, Some, None, Contains}
use Rattle.std.specs.List.{cons_option}
use Rattle.std.proofs.lemmas.Bool.{cases_Bool}
use Rattle.std.proofs.lemmas.List.Sorted.{Contains-permutation, IsPermutation-sym}
use Rattle.lan_store.specs.declared.name.Dir.TheVariants.{Data}
use Rattle.lan_store.specs.declared.name.Name.{Name}
use Rattle.lan_store.specs.declared.name.Object.{Object}
use Rattle.lan_store.specs.Names.{same_dir}
use Rattle.lan_store.specs.Objects.{object, names_in, IsListing}
use Rattle.lan_store.proofs.LawTerms.{folder_has}
use Rattle.lan_fresh.specs.Fresh.{greatest_of, above, file_path, file_number, file_numbers, numbers_of, fresh_file}
use Rattle.lan_fresh.proofs.Greatest.{above_found, above_low}
use Rattle.lan_fresh.proofs.Paths.{number_of_path}

numbers_named : (objects : List Object) → file_numbers objects ≡ numbers_of (names_in Data objects)
numbers_named [] = refl
numbers_named (o ∷ os) = elim (cases_Bool (same_dir o.name.dir Data)) [
  | inl same ↦ rw same (ap (cons_option (file_number o.name.rest)) (numbers_named os))
  | inr other ↦ rw other (numbers_named os)
]

-- each name's number is below
each_below : (names : List Name) (name : Name) → Contains names name → above (file_number name.rest) 1 ≤ above (greatest_of (numbers_of names)) 1
each_below [] name (k, within, is) = absurd (omega (arith, within))
each_below (x ∷ xs) name (zero, within, is) =
    let step = above_found (λ (n : Name). file_number n.rest) x xs 1 (omega arith) in
    subst (λ (n : Name). above (file_number n.rest) 1 ≤ above (greatest_of (numbers_of (x ∷ xs))) 1) is (omega (arith, step))
each_below (x ∷ xs) name (suc k, within, is) =
    let step = above_found (λ (n : Name). file_number n.rest) x xs 1 (omega arith) in
    let later = each_below xs name (k, omega (arith, within), is) in
    omega (arith, step, later)

-- and nothing less is above them all
least : (names : List Name) (bound : ℕ) → 1 ≤ bound → ((name : Name) → Contains names name → above (file_number name.rest) 1 ≤ bound) → above (greatest_of (numbers_of names)) 1 ≤ bound
least [] bound some each = some
least (x ∷ xs) bound some each =
    let step = above_found (λ (n : Name). file_number n.rest) x xs 1 (omega arith) in
    let here = each x (zero, omega arith, refl) in
    let later = least xs bound some (λ name (k, within, is). each name (suc k, omega (arith, within), is)) in
    omega (arith, step, here, later)

fewer : (xs ys : List Name) → ((name : Name) → Contains xs name → Contains ys name) → above (greatest_of (numbers_of xs)) 1 ≤ above (greatest_of (numbers_of ys)) 1
fewer xs ys among = least xs (above (greatest_of (numbers_of ys)) 1) (above_low (numbers_of ys)) (λ name held. each_below ys name (among name held))

-- a listing gives the fresh number of what is held
pub fresh_of_listing : (all : List Object) (names : List Name) → IsListing Data all names → above (greatest_of (numbers_of names)) 1 ≡ fresh_file all
fresh_of_listing all names listing =
    let down = fewer names (names_in Data all) (λ name held. Contains-permutation _ _ name (IsPermutation-sym _ _ listing.all) held) in
    let up = fewer (names_in Data all) names (λ name held. Contains-permutation _ _ name listing.all held) in
    let same = ap (λ ns. above (greatest_of ns) 1) (numbers_named all) in
    omega (arith, down, up, same)

-- the name that is drawn isn't held
pub fresh_is_free : (objects : List Object) → fresh_file objects < 2 ^ 53 → object objects (record { dir = Data; rest = file_path (fresh_file objects) }) ≡ None
fresh_is_free objects small = held (object objects (record { dir = Data; rest = file_path (fresh_file objects) })) refl where
  held : (o : Option (List ℕ)) → object objects (record { dir = Data; rest = file_path (fresh_file objects) }) ≡ o → o ≡ None
  held None is = refl
  held (Some bytes) is =
      let listed = (folder_has Data objects (record { dir = Data; rest = file_path (fresh_file objects) })).1 (refl, rw is refl) in
      let below = each_below (names_in Data objects) (record { dir = Data; rest = file_path (fresh_file objects) }) listed in
      let same = ap (λ ns. above (greatest_of ns) 1) (numbers_named objects) in
      let own = ap (λ o. above o 1) (number_of_path (fresh_file objects) small) in
      absurd (omega (arith, below, same, own))
