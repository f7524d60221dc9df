-- Fields by their types, as plain trees.
use Rattle.std.proofs.Common.{rules, ◌≡◌, ℕ, List, ap, ◌∙◌}
use Rattle.lan_model.specs.declared.tree.Field.{Field}
use Rattle.lan_model.specs.declared.tree.Field.{the_lemmas as field_lemmas}
use Rattle.lan_model.specs.declared.tree.Ty.{the_lemmas}
use Rattle.lan_model.specs.declared.tree.Ty.TheVariants as ty
use Rattle.lan_model.specs.declared.tree.Val.{the_lemmas as val_lemmas}
use Rattle.lan_model.specs.declared.tree.Val.TheVariants as val
use Rattle.lan_model.specs.Plain.{PlainType, field, list, struct, null, plain_type, plain_field, plain_fields, plain_value}

pub plain_type-List : (item : Field) → plain_type (ty.List item) ≡ list (plain_field item)
plain_type-List item = search (rules, the_lemmas)

pub plain_type-Struct : (members : List Field) → plain_type (ty.Struct members) ≡ struct (plain_fields members)
plain_type-Struct members = search (rules, the_lemmas)

pub plain_field-is : (f : Field) → plain_field f ≡ field f.id f.name f.nullable (plain_type f.ty)
plain_field-is f = search (rules, field_lemmas)

pub field-Struct : (f : Field) (members : List Field) → f.ty ≡ ty.Struct members → plain_field f ≡ field f.id f.name f.nullable (struct (plain_fields members))
field-Struct f members e = plain_field-is f ∙ ap (λ (t : PlainType ℕ). field f.id f.name f.nullable t) (ap plain_type e ∙ plain_type-Struct members)

pub field-List : (f : Field) (item : Field) → f.ty ≡ ty.List item → plain_field f ≡ field f.id f.name f.nullable (list (plain_field item))
field-List f item e = plain_field-is f ∙ ap (λ (t : PlainType ℕ). field f.id f.name f.nullable t) (ap plain_type e ∙ plain_type-List item)

pub plain_value-Null : plain_value val.Null ≡ null
plain_value-Null = search (rules, val_lemmas)
