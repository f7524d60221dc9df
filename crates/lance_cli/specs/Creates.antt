-- The fields that `create` is given, as a text.
use Rattle.std.specs.Prelude.{◌≡◌, ⊤, ℕ, map, List, Result, Ok, Err}
use Rattle.lan_model.specs.Plain.{PlainField, fields_from, plain_field, unnumbered}
use Rattle.lan_model.specs.declared.tree.Field.{Field}
use Rattle.lan_form.specs.Form.{form}
use Rattle.lan_form.specs.declared.faults.FormFault.{FormFault}
use Rattle.lan_schema.specs.Renumber.{all_numbered}
use Rattle.lan_commit.specs.Makes.{CanBeStored}
use Rattle.lance_cli.specs.Faults.{of_form}
use Rattle.lance_cli.specs.declared.fault.Fault.{Fault}
use Rattle.lance_cli.specs.declared.fault.Fault.TheVariants as fault

-- the text is the schema of these fields, which are numbered from 0 on, depth first, and can be stored
pub record Takes (json : List ℕ) (fields : List (PlainField ℕ)) : Type 0 where
  pub form : form json ≡ Ok (map unnumbered fields)
  pub numbered : fields_from fields ≡ all_numbered (fields_from (map unnumbered fields)) 0
  pub stored : CanBeStored fields

abbrev pub IsTaken : List ℕ → Type 0
IsTaken json = (fields : List (PlainField ℕ)) × Takes json fields

-- the text is no schema, and the fault says why, at the number of its line
abbrev pub RefusesForm : List ℕ → ℕ → Fault → Type 0
RefusesForm json line f = (why : FormFault) × (form json ≡ Err why) × (f ≡ of_form line why)

-- the fields of the text, or why there are none
abbrev pub ReadsFields : List ℕ → ℕ → Result (List Field) Fault → Type 0
ReadsFields json line (Ok fields) = Takes json (map plain_field fields)
ReadsFields json line (Err (fault.BadInput number why)) = RefusesForm json line (fault.BadInput number why)
ReadsFields json line (Err fault.Memory) = ⊤
ReadsFields json line (Err f) = ⊥
