-- The number that follows all numbers of fields.
use Rattle.std.specs.Prelude.{ℕ, ◌+◌, max, List, [], ◌∷◌, ℤ, pos, negsuc}
use Rattle.lan_model.specs.Plain.{PlainType, list, struct, PlainField, field, PlainFields, no_fields, one_field}

abbrev mutual
  -- one above the greatest number of the fields inside a type, or 0 where there is none
  pub end_of_type : PlainType ℕ → ℕ
  end_of_type (list item) = end_of item
  end_of_type (struct members) = end_of_all members
  end_of_type _ = 0

  -- the same of a field and all inside it
  pub end_of : PlainField ℕ → ℕ
  end_of (field id name nullable ty) = max (id + 1) (end_of_type ty)

  -- the same of fields and all inside them
  pub end_of_all : PlainFields ℕ → ℕ
  end_of_all no_fields = 0
  end_of_all (one_field f fs) = max (end_of f) (end_of_all fs)

-- one above the greatest number that isn't negative, or 0 where there is none
abbrev pub end_of_ids : List ℤ → ℕ
end_of_ids [] = 0
end_of_ids (pos id ∷ ids) = max (id + 1) (end_of_ids ids)
end_of_ids (negsuc _ ∷ ids) = end_of_ids ids

-- one above the greatest of all that aren't negative
abbrev pub fresh : PlainFields ℕ → List ℤ → ℕ
fresh fields ids = max (end_of_all fields) (end_of_ids ids)
