-- Which version a command reads, and which of its columns it prints.
use Rattle.std.specs.Prelude.{◌≡◌, ℕ, List, length, map, Option, Some, None, Result, Ok}
use Rattle.std.specs.List.{range_with_len}
use Rattle.lan_model.specs.After.{Refusal}
use Rattle.lan_model.specs.Plain.{PlainValue, unnumbered}
use Rattle.lan_model.specs.Table.{Column}
use Rattle.lan_model.specs.Take.{places_of}
use Rattle.lan_store.specs.declared.name.Object.{Object}
use Rattle.lan_manifest.specs.Manifests.{PlainManifest}
use Rattle.lan_read.specs.Opening.{IsAskedFor}
use Rattle.lan_read.specs.Scanned.{fields_at}
use Rattle.lan_read.specs.Tables.{HasManifest}
use Rattle.lance_cli.specs.Reports.{rows_text}

-- the places of the columns that are asked for by name, or the first name that is no column; all, where none are asked for
abbrev pub places_asked : List Column → Option (List (List ℕ)) → Result (List ℕ) Refusal
places_asked columns None = Ok (range_with_len 0 (length columns))
places_asked columns (Some names) = places_of columns names

-- the rows' lines, in the columns at these places
abbrev pub lines_at : List Column → List ℕ → List (List PlainValue) → List ℕ
lines_at columns places rows = rows_text (fields_at columns places) rows

-- the manifest is that of the version that is asked for by number, or of the newest
pub record IsAskedManifest (objects : List Object) (asked : Option ℕ) (m : PlainManifest) : Type 0 where
  pub is_asked : IsAskedFor objects asked m.version
  pub has : HasManifest objects m.version m

-- the manifest of the version that is asked for, and the places of its columns that are
pub record IsScanned (objects : List Object) (version : Option ℕ) (names : Option (List (List ℕ))) (m : PlainManifest) (places : List ℕ) : Type 0 where
  pub manifest : IsAskedManifest objects version m
  pub places_are : places_asked (map unnumbered m.fields) names ≡ Ok places
