-- The fields of a text: numbered depth first, they are those that a new dataset takes.
use Rattle.std.proofs.Common.{◌≡◌, refl, sym, ◌∙◌, ap, subst, ℕ, ◌+◌, List, [], ◌∷◌, ◌++◌, map, arith}
use Rattle.std.specs.Prelude.{Ok, Err, codes}
use Rattle.lan_model.specs.Plain.{PlainType, primitive, vector, text, bytes as binary, list, struct, PlainField, field, PlainFields, no_fields, one_field, fields_from, plain_field, plain_fields, unnumbered, type_unnumbered, all_unnumbered}
use Rattle.lan_model.specs.PlainTable.{column_of}
use Rattle.lan_model.specs.Table.{AreColumns}
use Rattle.lan_model.specs.declared.tree.Field.{Field}
use Rattle.lan_form.specs.Form.{form}
use Rattle.lan_form.specs.Numbers as form_numbers
use Rattle.lan_form.specs.Numbers.{CountFrom, CountsFrom, InsideFrom}
use Rattle.lan_form.specs.Printed.{json_of}
use Rattle.lan_form.specs.declared.faults.FormFault.{FormFault}
use Rattle.lan_form.specs.declared.faults.FormFault.TheVariants as unformed
use Rattle.lan_form.proofs.LawTerms.{numbers_are_not_printed}
use Rattle.lan_schema.specs.Renumber.{fields_in, fields_in_all, fields_in_type, numbered, type_numbered, all_numbered}
use Rattle.lan_schema.specs.Written.{CanTellAll}
use Rattle.lan_commit.proofs.LawTerms.{numbered_stored}
use Rattle.lance_cli.specs.Creates.{Takes, ReadsFields}
use Rattle.lance_cli.specs.Faults.{of_form}
use Rattle.lance_cli.specs.Reports.{schema_text}
use Rattle.lance_cli.specs.declared.fault.Fault.{Fault}

-- as many fields are below one without numbers
mutual
  same_in : (f : PlainField ℕ) → form_numbers.fields_in f ≡ fields_in (unnumbered f)
  same_in (field id name nullable ty) = omega (arith, same_in_type ty)

  same_in_type : (t : PlainType ℕ) → form_numbers.inside t ≡ fields_in_type (type_unnumbered t)
  same_in_type (primitive p) = refl
  same_in_type (vector p k) = refl
  same_in_type text = refl
  same_in_type binary = refl
  same_in_type (list item) = same_in item
  same_in_type (struct members) = same_in_all members

  same_in_all : (fs : PlainFields ℕ) → form_numbers.all_in fs ≡ fields_in_all (all_unnumbered fs)
  same_in_all no_fields = refl
  same_in_all (one_field f fs) = omega (arith, same_in f, same_in_all fs)

-- fields that count up are those that are numbered so
mutual
  field_counted : (n : ℕ) (f : PlainField ℕ) → CountsFrom n f → f ≡ numbered (unnumbered f) n
  field_counted n (field id name nullable ty) (is, inside) = ap (λ k. field k name nullable ty) is ∙ ap (field n name nullable) (type_counted (n + 1) ty inside)

  type_counted : (n : ℕ) (t : PlainType ℕ) → InsideFrom n t → t ≡ type_numbered (type_unnumbered t) n
  type_counted n (primitive p) inside = refl
  type_counted n (vector p k) inside = refl
  type_counted n text inside = refl
  type_counted n binary inside = refl
  type_counted n (list item) inside = ap list (field_counted n item inside)
  type_counted n (struct members) inside = ap struct (all_counted n members inside)

  all_counted : (n : ℕ) (fs : PlainFields ℕ) → CountFrom n fs → fs ≡ all_numbered (all_unnumbered fs) n
  all_counted n no_fields counted = refl
  all_counted n (one_field f fs) (first, others) =
      ap (λ g. one_field g fs) (field_counted n f first)
      ∙ ap (one_field (numbered (unnumbered f) n)) (all_counted (n + form_numbers.fields_in f) fs others ∙ ap (λ k. all_numbered (all_unnumbered fs) (n + k)) (same_in f))

one_by_one : (fields : List (PlainField ℕ)) → all_unnumbered (fields_from fields) ≡ fields_from (map unnumbered fields)
one_by_one [] = refl
one_by_one (f ∷ fs) = ap (one_field (unnumbered f)) (one_by_one fs)

pub counted : (fields : List (PlainField ℕ)) → CountFrom 0 (fields_from fields) → fields_from fields ≡ all_numbered (fields_from (map unnumbered fields)) 0
counted fields is = all_counted 0 (fields_from fields) is ∙ ap (λ (fs : PlainFields (Unit {0})). all_numbered fs 0) (one_by_one fields)

pub columns_are : (fields : List Field) → map column_of fields ≡ map unnumbered (map plain_field fields)
columns_are [] = refl
columns_are (f ∷ fs) = ap (λ l. column_of f ∷ l) (columns_are fs)

-- the fields of a text are those that a new dataset takes
pub takes_fields : (json : List ℕ) (fields : List Field) → form json ≡ Ok (map column_of fields) → CountFrom 0 (plain_fields fields) → CanTellAll (plain_fields fields) → AreColumns (map column_of fields) → Takes json (map plain_field fields)
takes_fields json fields is counts told columns =
    let number = counted (map plain_field fields) counts in
    record {
      form = is ∙ ap (λ l. Ok l) (columns_are fields);
      numbered = number;
      stored = numbered_stored (map plain_field fields) (fields_from (map unnumbered (map plain_field fields))) 0 (subst AreColumns (columns_are fields) columns) told number;
    }

-- a text that is no schema
pub refuses_form : (json : List ℕ) (line : ℕ) (why : FormFault) (f : Fault) → form json ≡ Err why → f ≡ of_form line why → ReadsFields json line (Err f)
refuses_form json line why f bad is = subst (λ g. ReadsFields json line (Err g)) (sym is) (go why bad) where
  go : (why : FormFault) → form json ≡ Err why → ReadsFields json line (Err (of_form line why))
  go unformed.Json bad = (unformed.Json, bad, refl)
  go unformed.Form bad = (unformed.Form, bad, refl)
  go unformed.NoName bad = (unformed.NoName, bad, refl)
  go (unformed.SameName name) bad = (unformed.SameName name, bad, refl)
  go (unformed.UnknownType kind) bad = (unformed.UnknownType kind, bad, refl)
  go unformed.NoFields bad = (unformed.NoFields, bad, refl)
  go unformed.TooDeep bad = (unformed.TooDeep, bad, refl)
  go unformed.TooManyLeaves bad = (unformed.TooManyLeaves, bad, refl)
  go unformed.Memory bad = tt

pub out_of_memory : (json : List ℕ) (line : ℕ) (why : FormFault) (f : Fault) → why ≡ unformed.Memory → f ≡ of_form line why → ReadsFields json line (Err f)
out_of_memory json line why f none is = subst (λ g. ReadsFields json line (Err g)) (sym (is ∙ ap (of_form line) none)) tt

-- the schema on a line doesn't tell numbers
pub line_is : (fields : List Field) (printed : List ℕ) → printed ≡ json_of (plain_fields fields) → printed ++ codes "\n" ≡ schema_text (map column_of fields)
line_is fields printed is = ap (λ t. t ++ codes "\n") (is ∙ numbers_are_not_printed (map plain_field fields) ∙ ap (λ columns. json_of (fields_from columns)) (sym (columns_are fields)))
