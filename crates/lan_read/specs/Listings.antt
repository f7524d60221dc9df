-- The lists of ids and columns of a data file of fields, as a writer makes them: depth first, leaves and parents, a parent in no column of its own.
use Rattle.std.specs.Prelude.{ℕ, ◌+◌, List, [], ◌∷◌, ◌++◌, length, map, pos, negsuc, ℤ}
use Rattle.lan_levels.specs.EachLeaf.{leaf_count}
use Rattle.lan_levels.specs.SlotsOf.{rows_slots}
use Rattle.lan_model.specs.Leaves.{PlainLeaf, leaves_from}
use Rattle.lan_model.specs.Plain.{list, struct, PlainField, field, PlainFields, no_fields, one_field, PlainValue, fields_from, values_from}
use Rattle.lan_schema.specs.FieldTree.{signed}
use Rattle.lan_file.specs.FileOf.{IsFileOf}
use Rattle.lan_file.specs.Heads.{Pick}
use Rattle.lan_manifest.specs.declared.manifest.DataFile.{DataFile}

-- the id of a field, and its column
pub record Listing : Type 0 where
  pub id : ℕ
  pub column : ℤ

abbrev mutual
  -- the listings of a field, whose leaves have the columns from one on
  pub listings_of : PlainField ℕ → ℕ → List Listing
  listings_of (field id name nullable (list item)) column = record { id = id; column = negsuc 0 } ∷ listings_of item column
  listings_of (field id name nullable (struct members)) column = record { id = id; column = negsuc 0 } ∷ all_listings members column
  listings_of (field id name nullable ty) column = record { id = id; column = pos column } ∷ []

  pub all_listings : PlainFields ℕ → ℕ → List Listing
  all_listings no_fields column = []
  all_listings (one_field f fs) column = listings_of f column ++ all_listings fs (column + leaf_count f)

abbrev pub ids_in : List Listing → List ℤ
ids_in = map (λ l. signed l.id)

abbrev pub columns_in : List Listing → List ℤ
columns_in = map (λ l. l.column)

-- a data file of these fields under a path
abbrev pub file_of_fields : List ℕ → List (PlainField ℕ) → DataFile
file_of_fields path fields = record { path = path; ids = ids_in (all_listings (fields_from fields) 0); columns = columns_in (all_listings (fields_from fields) 0) }

-- a column for each of the leaves, from one on
abbrev pub picks_from : ℕ → List PlainLeaf → List Pick
picks_from column [] = []
picks_from column (leaf ∷ leaves) = record { column = column; leaf = leaf } ∷ picks_from (column + 1) leaves

-- the bytes are a data file of these rows, a column for each leaf of the fields
abbrev pub IsFileOfRows : List (PlainField ℕ) → List ℕ → List (List PlainValue) → Type 0
IsFileOfRows fields bytes rows =
    IsFileOf (picks_from 0 (leaves_from (fields_from fields) 0)) bytes (length rows) (map (λ leaf. rows_slots leaf (map values_from rows)) (leaves_from (fields_from fields) 0))

-- rows of one value each
abbrev pub rows_of_one : List PlainValue → List (List PlainValue)
rows_of_one = map (λ v. v ∷ [])
