-- The fields that a JSON text stands for, or the first fault, depth first.
use Rattle.std.specs.Prelude.{ℕ, List, [], ◌∷◌, cond, nat_eq, length, bytes_eq, codes, Option, Some, None, Ok, Err}
use Rattle.serde_json.specs.Data.{Data, null, boolean, number, string, array, object, Items, no_items, item, Members, no_members, member}
use Rattle.serde_json.specs.Read.{read}
use Rattle.lan_model.specs.Plain.{PlainType, list, struct, field, fields_from, type_unnumbered}
use Rattle.lan_model.specs.Table.{Column}
use Rattle.lan_schema.specs.Logical.{leaf_type}
use Rattle.lan_form.specs.declared.faults.FormFault.TheVariants as fault
use Rattle.lan_form.specs.Judged.{Judged, on_good, and_then, some_or}
use Rattle.lan_form.specs.Shape.{Label, label_of}
use Rattle.lan_form.specs.Names.{distinct}
use Rattle.lan_form.specs.Limits.{within}

abbrev pub ColumnType : Type 0
ColumnType = PlainType (Unit {0})

-- the type without fields in it that the text names
abbrev pub known : List ℕ → Option (PlainType ℕ) → Judged ColumnType
known kind None = Err (fault.UnknownType kind)
known kind (Some t) = Ok (type_unnumbered t)

-- the type, by what the members `item` and `fields` stand for
abbrev pub typed : List ℕ → Judged Column → Judged (List Column) → Judged ColumnType
typed kind inner inside =
    cond (bytes_eq kind (codes "list")) (on_good list inner)
    (cond (bytes_eq kind (codes "struct")) (on_good (λ fs. struct (fields_from fs)) inside)
    (known kind (leaf_type kind)))

-- a field with a name
abbrev pub named : Label → Judged ColumnType → Judged Column
named label ty = cond (nat_eq (length label.name) 0) (Err fault.NoName) (on_good (field tt label.name label.nullable) ty)

-- the keys come first, then the name, then the type and what is in it
abbrev pub field_from : Judged Label → Judged Column → Judged (List Column) → Judged Column
field_from label inner inside = and_then label (λ l. named l (typed l.kind inner inside))

abbrev pub unless_empty : Items → Judged (List Column) → Judged (List Column)
unless_empty no_items each = Err fault.NoFields
unless_empty (item d ds) each = each

abbrev mutual
  pub field_form : Data → Judged Column
  field_form null = Err fault.Form
  field_form (boolean b) = Err fault.Form
  field_form (number n) = Err fault.Form
  field_form (string s) = Err fault.Form
  field_form (array ds) = Err fault.Form
  field_form (object ms) = field_from (label_of ms) (item_form ms) (fields_form ms)

  -- the field at the key `item`
  pub item_form : Members → Judged Column
  item_form no_members = Err fault.Form
  item_form (member k d ms) = cond (bytes_eq (codes "item") k) (field_form d) (item_form ms)

  -- the fields at the key `fields`
  pub fields_form : Members → Judged (List Column)
  fields_form no_members = Err fault.Form
  fields_form (member k d ms) = cond (bytes_eq (codes "fields") k) (list_form d) (fields_form ms)

  -- each field whole, and then the names beside each other
  pub list_form : Data → Judged (List Column)
  list_form null = Err fault.Form
  list_form (boolean b) = Err fault.Form
  list_form (number n) = Err fault.Form
  list_form (string s) = Err fault.Form
  list_form (array ds) = unless_empty ds (and_then (each_form ds) distinct)
  list_form (object ms) = Err fault.Form

  pub each_form : Items → Judged (List Column)
  each_form no_items = Ok []
  each_form (item d ds) = and_then (field_form d) (λ f. on_good (λ fs. f ∷ fs) (each_form ds))

-- ---- whole texts

-- the fields of a schema
unfoldable pub form : List ℕ → Judged (List Column)
form text = and_then (some_or fault.Json (read text)) (λ d. and_then (list_form d) within)

-- one field
unfoldable pub form_of_field : List ℕ → Judged Column
form_of_field text = and_then (some_or fault.Json (read text)) (λ d. and_then (field_form d) (λ f. on_good (λ _. f) (within (f ∷ []))))
