-- What a store that tells says of its objects.
use Rattle.std.specs.Prelude.{◌≢◌, ℕ, List, ◌++◌, find, Option, Some, None, option_map, map, filter, AllPairs, IsPermutation, IsSortedBy}
use Rattle.std.specs.Option.{ForSome}
use Rattle.std.specs.Ordering.{nat_cmp, is_lt}
use Rattle.std.specs.Cmp.Lexicographic.{slice_cmp}
use Rattle.std.proofs.Common.{subst}
use Rattle.std.proofs.lemmas.Option.{same_Some}
use Rattle.lan_store.specs.Names.{same_dir, same_name}
use Rattle.lan_store.specs.declared.name.Dir.{Dir}
use Rattle.lan_store.specs.declared.name.Name.{Name}
use Rattle.lan_store.specs.declared.name.Object.{Object}

-- the bytes of the object of this name
unfoldable pub object : List Object → Name → Option (List ℕ)
object objects name = option_map (λ o. o.bytes) (find (λ o. same_name o.name name) objects)

-- no two objects have one name
abbrev pub AreDistinct : List Object → Type 0
AreDistinct objects = AllPairs (λ a b. a.name ≢ b.name) objects

-- the objects with these behind them, where they are told
abbrev pub and_then : Option (List Object) → List Object → Option (List Object)
and_then told more = option_map (λ objects. objects ++ more) told

-- the names in this folder, in the order in which they were put
abbrev pub names_in : Dir → List Object → List Name
names_in dir objects = filter (λ name. same_dir name.dir dir) (map (λ o. o.name) objects)

-- the names are those in the folder, in the order of their bytes
pub record IsListing (dir : Dir) (objects : List Object) (names : List Name) : Type 0 where
  pub all : IsPermutation (names_in dir objects) names
  pub sorted : IsSortedBy (λ a b. is_lt (slice_cmp nat_cmp a.rest b.rest)) names

-- a told list is one whose names are distinct
pub told_distinct : (objects : List Object) → AreDistinct objects → ForSome (Some objects) AreDistinct
told_distinct objects distinct all told = subst AreDistinct (same_Some objects all told) distinct

pub nothing_told : ForSome None AreDistinct
nothing_told all told = absurd (cc told)
