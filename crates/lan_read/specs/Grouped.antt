-- The columns that are read of files, by the files' numbers.
use Rattle.std.specs.Prelude.{◌≡◌, ℕ, ℤ, suc, ◌≤◌, cond, List, [], ◌∷◌, length, map, Option, Some, None, option_map}
use Rattle.std.specs.Option.{option_or}
use Rattle.std.specs.Ordering.{int_cmp}
use Rattle.std.specs.BTreeMap.{BTreeMap, get}
use Rattle.lan_model.specs.Leaves.{leaves_of}
use Rattle.lan_model.specs.Plain.{PlainField}
use Rattle.lan_file.specs.Heads.{Pick}
use Rattle.lan_manifest.specs.declared.manifest.DataFile.{DataFile}
use Rattle.lan_read.specs.Opened.{Use, column_listed, has_path, picks_at, uses_of}
use Rattle.lan_read.specs.declared.used.Place.{Place}

-- the number of the last file with this path
abbrev pub last_at : List DataFile → List ℕ → ℕ
last_at [] path = 0
last_at (file ∷ files) path = cond (has_path files path) (suc (last_at files path)) 0

-- the same, where there is one
abbrev pub last_place : List DataFile → List ℕ → Option ℕ
last_place files path = cond (has_path files path) (Some (last_at files path)) None

abbrev pub placed : ℕ → Option ℕ → Option Place
placed number found = option_map (λ column. record { file = number; column = column }) found

-- the first column that the files have for a field's number; of files with one path the last stands for all
abbrev pub place_in : List DataFile → List DataFile → ℤ → Option Place
place_in all [] id = None
place_in all (file ∷ files) id = option_or (placed (last_at all file.path) (column_listed file.ids file.columns id)) (place_in all files id)

-- the map has that of each number
pub record ArePlaces (files : List DataFile) (places : BTreeMap ℤ Place) : Type 0 where
  pub each : (id : ℤ) → get int_cmp places id ≡ place_in files files id

-- the numbers of the files of which columns are read
abbrev pub numbers_of : List DataFile → List Use → List ℕ
numbers_of files uses = map (λ (used : Use). last_at files used.path) uses

abbrev pub numbers_for : List DataFile → PlainField ℕ → List ℕ
numbers_for files f = numbers_of files (uses_of files (leaves_of f 0 []))

-- of each file the columns that are read; of files with one path only the last has them
abbrev pub grouped : List DataFile → List Use → List (List Pick)
grouped [] uses = []
grouped (file ∷ files) uses = cond (has_path files file.path) [] (picks_at uses file.path) ∷ grouped files uses

-- a column has at most 16 layers
abbrev pub IsLow : Pick → Type 0
IsLow pick = length pick.leaf.layers ≤ 16
