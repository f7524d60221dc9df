-- Laws of fields and values.
use Rattle.std.specs.Prelude.{ℕ, ◌^◌, ◌<◌, ◌↔◌, List, map}
use Rattle.lan_model.specs.Plain.{PlainField, PlainValue, unnumbered, fields_from}
use Rattle.lan_model.specs.Fits.{Fits}
use Rattle.lan_model.specs.Leaves.{count_of, AreNarrow}
use Rattle.lan_model.specs.Table.{AreColumns}

-- a field takes what it takes without its number
abbrev pub NumbersAreNoMatter : Type 0
NumbersAreNoMatter = (f : PlainField ℕ) (v : PlainValue) → Fits (unnumbered f) v ↔ Fits f v

-- the fields of a table are few enough for `leaves`
abbrev pub ColumnsAreFew : Type 0
ColumnsAreFew = (fields : List (PlainField ℕ)) → AreColumns (map unnumbered fields) → (count_of (fields_from fields) < 2 ^ 32) × AreNarrow (fields_from fields)
