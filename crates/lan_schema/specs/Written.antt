-- Fields as the writer lists them: depth first, each with its parent's number.
use Rattle.std.specs.Prelude.{ℕ, ◌^◌, ◌<◌, ◌≤◌, ⊤, length, negsuc, All}
use Rattle.std.specs.Str.{IsUtf8}
use Rattle.lan_model.specs.Plain.{PlainType, list, struct, PlainField, field, PlainFields, no_fields, one_field}
use Rattle.lan_model.specs.Table.{AreNamed, AreFields, HaveNamedItems, all_depths}
use Rattle.lan_schema.specs.FieldTree.{all_messages, logical_of, signed}
use Rattle.lan_schema.specs.Forest.{Trees, none, tree, AreDistinct}

abbrev mutual
  -- the trees of the fields inside a type
  pub trees_in : PlainType ℕ → Trees
  trees_in (list item) = tree_before item none
  trees_in (struct members) = trees_of members
  trees_in _ = none

  -- a field's tree, and others beside it
  pub tree_before : PlainField ℕ → Trees → Trees
  tree_before (field id name nullable ty) others = tree (record { name = name; id = signed id; logical = logical_of ty; nullable = nullable }) (trees_in ty) others

  -- the trees of fields
  pub trees_of : PlainFields ℕ → Trees
  trees_of no_fields = none
  trees_of (one_field f fs) = tree_before f (trees_of fs)

abbrev mutual
  -- what is inside the type can be told
  pub CanTellType : PlainType ℕ → Type 0
  CanTellType (list item) = CanTell item
  CanTellType (struct members) = CanTellAll members
  CanTellType _ = ⊤

  -- messages can tell the field and all inside it: numbers are below 2^31 and names are UTF-8
  pub CanTell : PlainField ℕ → Type 0
  CanTell (field id name nullable ty) = (id < 2 ^ 31) × IsUtf8 name × CanTellType ty

  pub CanTellAll : PlainFields ℕ → Type 0
  CanTellAll no_fields = ⊤
  CanTellAll (one_field f fs) = CanTell f × CanTellAll fs

-- fields that a table may have, with their numbers or without
pub record AreTableFields {I : Type 0} (fields : PlainFields I) : Type 0 where
  pub named : AreNamed fields
  pub each : AreFields fields
  pub items : HaveNamedItems fields
  pub leaves : length (all_depths fields 0) ≤ 1024
  pub layers : All (λ depth. depth ≤ 16) (all_depths fields 0)

-- fields of a table that the writer may write under a number of a message: each has a number of its own
pub record IsWritable (number : ℕ) (fields : PlainFields ℕ) : Type 0 where
  pub low : 0 < number
  pub up : number < 2 ^ 29
  pub fits : length (all_messages number (negsuc 0) fields) < 2 ^ 63
  pub told : CanTellAll fields
  pub table : AreTableFields fields
  pub apart : AreDistinct (trees_of fields)
