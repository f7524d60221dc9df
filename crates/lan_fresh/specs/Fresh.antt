-- The fresh numbers that a change draws: of fragments and of data files.
use Rattle.std.specs.Prelude.{ℕ, ◌+◌, ◌-◌, ◌^◌, List, [], ◌∷◌, ◌++◌, length, map, take, replicate, filter_map, cond, ◌&&◌, nat_lt, bytes_eq, codes, decimal, max, Option, Some, None, unwrap_or}
use Rattle.std.specs.Str.Parse.{digits_value}
use Rattle.lan_store.specs.Names.{same_dir}
use Rattle.lan_store.specs.declared.name.Dir.TheVariants.{Data}
use Rattle.lan_store.specs.declared.name.Name.{Name}
use Rattle.lan_store.specs.declared.name.Object.{Object}
use Rattle.lan_manifest.specs.Manifests.{PlainManifest}

abbrev pub greatest_of : List ℕ → Option ℕ
greatest_of [] = None
greatest_of (n ∷ ns) = Some (max n (unwrap_or (greatest_of ns) 0))

abbrev pub above : Option ℕ → ℕ → ℕ
above None first = first
above (Some n) first = n + 1

-- the path of a data file's number, in twenty digits
unfoldable pub file_path : ℕ → List ℕ
file_path n = replicate (20 - length (decimal n)) 48 ++ (decimal n ++ codes ".lance")

-- the number below 2^53 whose path this is
unfoldable pub file_number : List ℕ → Option ℕ
file_number path = cond (bytes_eq path (file_path (digits_value 10 (take 20 path))) && nat_lt (digits_value 10 (take 20 path)) (2 ^ 53)) (Some (digits_value 10 (take 20 path))) None

abbrev pub file_numbers : List Object → List ℕ
file_numbers objects = filter_map (λ o. cond (same_dir o.name.dir Data) (file_number o.name.rest) None) objects

-- the same of the names of data files
abbrev pub numbers_of : List Name → List ℕ
numbers_of names = filter_map (λ name. file_number name.rest) names

-- one above the greatest number of a data file that is held, from 1
abbrev pub fresh_file : List Object → ℕ
fresh_file objects = above (greatest_of (file_numbers objects)) 1

abbrev pub with_greatest : Option ℕ → List ℕ → List ℕ
with_greatest None ids = ids
with_greatest (Some id) ids = id ∷ ids

-- one above the greatest fragment id that was ever given, from 0
abbrev pub fresh_fragment : PlainManifest → ℕ
fresh_fragment m = above (greatest_of (with_greatest m.greatest (map (λ f. f.id) m.fragments))) 0
