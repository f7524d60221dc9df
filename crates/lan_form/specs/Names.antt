-- Names that come twice; names that are texts.
use Rattle.std.specs.Prelude.{ℕ, ⊤, List, [], ◌∷◌, ◌++◌, cond, bytes_eq, map, Option, Some, None, Ok, Err, IsUtf8}
use Rattle.std.specs.List.{list_any}
use Rattle.lan_model.specs.Plain.{PlainType, list, struct, PlainField, field, PlainFields, no_fields, one_field}
use Rattle.lan_model.specs.Table.{Column, name_of}
use Rattle.lan_form.specs.declared.faults.FormFault.TheVariants.{SameName}
use Rattle.lan_form.specs.Judged.{Judged}

-- the first of these names that stands before it, in these or in the earlier ones
abbrev pub first_twice : List (List ℕ) → List (List ℕ) → Option (List ℕ)
first_twice earlier [] = None
first_twice earlier (name ∷ names) = cond (list_any (bytes_eq name) earlier) (Some name) (first_twice (earlier ++ name ∷ []) names)

abbrev pub unless_twice : List Column → Option (List ℕ) → Judged (List Column)
unless_twice columns None = Ok columns
unless_twice columns (Some name) = Err (SameName name)

-- the fields, where no two have one name
abbrev pub distinct : List Column → Judged (List Column)
distinct columns = unless_twice columns (first_twice [] (map name_of columns))

abbrev mutual
  -- the names of the field and of all inside it are UTF-8
  pub HasTextNames : PlainField ℕ → Type 0
  HasTextNames (field id name nullable ty) = IsUtf8 name × HasTextsInside ty

  pub HasTextsInside : PlainType ℕ → Type 0
  HasTextsInside (list item) = HasTextNames item
  HasTextsInside (struct members) = HaveTextNames members
  HasTextsInside ty = ⊤

  pub HaveTextNames : PlainFields ℕ → Type 0
  HaveTextNames no_fields = ⊤
  HaveTextNames (one_field f fs) = HasTextNames f × HaveTextNames fs
