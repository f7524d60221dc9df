-- Numbers of fields, depth first.
use Rattle.std.specs.Prelude.{◌≡◌, ℕ, ◌+◌, ◌^◌, ◌<◌, ⊤}
use Rattle.lan_model.specs.Plain.{PlainType, list, struct, PlainField, field, PlainFields, no_fields, one_field}

abbrev mutual
  -- how many fields a field is, those in it counted
  pub fields_in : {I : Type 0} → PlainField I → ℕ
  fields_in (field id name nullable ty) = inside ty + 1

  pub inside : {I : Type 0} → PlainType I → ℕ
  inside (list item) = fields_in item
  inside (struct members) = all_in members
  inside ty = 0

  pub all_in : {I : Type 0} → PlainFields I → ℕ
  all_in no_fields = 0
  all_in (one_field f fs) = fields_in f + all_in fs

abbrev mutual
  -- the field has this number, and those in it the numbers that follow
  pub CountsFrom : ℕ → PlainField ℕ → Type 0
  CountsFrom n (field id name nullable ty) = (id ≡ n) × InsideFrom (n + 1) ty

  -- the fields in a type have the numbers from this one on
  pub InsideFrom : ℕ → PlainType ℕ → Type 0
  InsideFrom n (list item) = CountsFrom n item
  InsideFrom n (struct members) = CountFrom n members
  InsideFrom n ty = ⊤

  -- the fields have the numbers from this one on
  pub CountFrom : ℕ → PlainFields ℕ → Type 0
  CountFrom n no_fields = ⊤
  CountFrom n (one_field f fs) = CountsFrom n f × CountFrom (n + fields_in f) fs

-- the same where the numbers stay below 2^32, and the number that comes next
abbrev pub FieldCounted : ℕ → PlainField ℕ → ℕ → Type 0
FieldCounted n f next = n + fields_in f < 2 ^ 32 → CountsFrom n f × (next ≡ n + fields_in f)

abbrev pub TypeCounted : ℕ → PlainType ℕ → ℕ → Type 0
TypeCounted n t next = n + inside t < 2 ^ 32 → InsideFrom n t × (next ≡ n + inside t)

abbrev pub AllCounted : ℕ → PlainFields ℕ → ℕ → Type 0
AllCounted n fs next = n + all_in fs < 2 ^ 32 → CountFrom n fs × (next ≡ n + all_in fs)
