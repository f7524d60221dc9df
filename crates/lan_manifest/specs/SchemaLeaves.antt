-- The leaves of a schema, by the numbers under which data files list them.
use Rattle.std.specs.Prelude.{ℕ, ℤ, Bool, ◌||◌, false, List, [], ◌∷◌, ◌++◌}
use Rattle.std.specs.BTreeSet.{contains}
use Rattle.std.specs.Ordering.{int_cmp}
use Rattle.lan_model.specs.Plain.{PlainType, list, struct, PlainField, field, PlainFields, no_fields, one_field}
use Rattle.lan_schema.specs.FieldTree.{signed}
use Rattle.lan_schema.specs.Forest.{same}
use Rattle.lan_manifest.specs.declared.schema.Schema.{Schema}
use Rattle.lan_manifest.specs.declared.schema.Top.{Top}

abbrev mutual
  -- the numbers of the leaves of a field, depth first
  pub leaf_ids : PlainField ℕ → List ℤ
  leaf_ids (field id name nullable (list item)) = leaf_ids item
  leaf_ids (field id name nullable (struct members)) = all_leaf_ids members
  leaf_ids (field id name nullable ty) = signed id ∷ []

  pub all_leaf_ids : PlainFields ℕ → List ℤ
  all_leaf_ids no_fields = []
  all_leaf_ids (one_field f fs) = leaf_ids f ++ all_leaf_ids fs

-- a top field, as fragments are held against it
abbrev pub top_of : PlainField ℕ → Top
top_of (field id name nullable ty) = record { nullable = nullable; leaves = leaf_ids (field id name nullable ty) }

abbrev pub tops_of : PlainFields ℕ → List Top
tops_of no_fields = []
tops_of (one_field f fs) = top_of f ∷ tops_of fs

-- whether a number is listed
abbrev pub is_listed : List ℤ → ℤ → Bool
is_listed [] id = false
is_listed (z ∷ zs) id = same z id || is_listed zs id

-- which numbers are those of leaves, and the top fields
pub record LeafShape : Type 0 where
  pub is_leaf : ℤ → Bool
  pub tops : List Top

abbrev pub shape_of : PlainFields ℕ → LeafShape
shape_of fields = record { is_leaf = is_listed (all_leaf_ids fields); tops = tops_of fields }

abbrev pub shape_in : Schema → LeafShape
shape_in schema = record { is_leaf = contains int_cmp schema.leaves; tops = schema.tops }
