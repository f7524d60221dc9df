-- What is printed is read back, and tells no numbers.
use Rattle.std.specs.Prelude.{◌≡◌, ℕ, List, map, Ok}
use Rattle.lan_model.specs.Plain.{PlainField, fields_from, unnumbered}
use Rattle.lan_model.specs.Table.{AreColumns}
use Rattle.lan_form.specs.Form.{form}
use Rattle.lan_form.specs.Printed.{json_of}

-- the JSON of fields that a table may have stands for them, apart from their numbers
abbrev pub IsReadBack : List (PlainField ℕ) → Type 0
IsReadBack fields = AreColumns (map unnumbered fields) → form (json_of (fields_from fields)) ≡ Ok (map unnumbered fields)

-- fields that differ in their numbers alone have one JSON
abbrev pub TellsNoNumbers : List (PlainField ℕ) → Type 0
TellsNoNumbers fields = json_of (fields_from fields) ≡ json_of (fields_from (map unnumbered fields))
