-- A field that takes whatever has its shape.
use Rattle.std.specs.Prelude.{ℕ, true}
use Rattle.lan_model.specs.Plain.{PlainType, primitive, vector, text, bytes, list, struct, PlainField, field, PlainFields, no_fields, one_field}

abbrev mutual
  -- the type where a null may stand for any value inside, and any bytes for a text
  pub type_loosened : PlainType ℕ → PlainType ℕ
  type_loosened (primitive p) = primitive p
  type_loosened (vector p n) = vector p n
  type_loosened text = bytes
  type_loosened bytes = bytes
  type_loosened (list item) = list (loosened item)
  type_loosened (struct members) = struct (all_loosened members)

  -- the field where a null may stand for any value, and any bytes for a text
  pub loosened : PlainField ℕ → PlainField ℕ
  loosened (field id name n ty) = field id name true (type_loosened ty)

  pub all_loosened : PlainFields ℕ → PlainFields ℕ
  all_loosened no_fields = no_fields
  all_loosened (one_field f fs) = one_field (loosened f) (all_loosened fs)
