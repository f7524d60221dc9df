-- Fields of the code as plain fields.
use Rattle.std.proofs.Common.{◌≡◌, sym, ap, ◌∙◌, ℕ, Bool, List, rules, map}
use Rattle.lan_model.specs.declared.tree.Field.{Field, roll-Field}
use Rattle.lan_model.specs.declared.tree.Field as declared
use Rattle.lan_model.specs.declared.tree.Ty.{Ty, Struct, the_lemmas}
use Rattle.lan_model.specs.Plain.{struct, field, plain_type, plain_field, plain_fields, fields_from, type_unnumbered}
use Rattle.lan_model.specs.PlainTable.{column_of}
use Rattle.lan_model.specs.Table.{name_of}
use Rattle.lan_form.proofs.Depths.{columns_are}

pub plain_rolled : (id : ℕ) (name : List ℕ) (nullable : Bool) (ty : Ty) → plain_field (roll-Field (record { id = id; name = name; nullable = nullable; ty = ty })) ≡ field id name nullable (plain_type ty)
plain_rolled id name nullable ty = search (rules, declared.the_lemmas)

pub plain_struct : (fs : List Field) → plain_type (Struct fs) ≡ struct (plain_fields fs)
plain_struct fs = search (rules, the_lemmas)

pub struct_column : (fs : List Field) → type_unnumbered (plain_type (Struct fs)) ≡ struct (fields_from (map column_of fs))
struct_column fs = ap type_unnumbered (plain_struct fs) ∙ ap struct (sym (columns_are fs))

pub column_name : (f : Field) → name_of (column_of f) ≡ f.name
column_name f = search (rules, declared.the_lemmas)
