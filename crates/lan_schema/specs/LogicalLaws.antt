-- Logical types name each leaf type that a table may have, and no two name one.
use Rattle.std.specs.Prelude.{◌≡◌, ℕ, List, Some}
use Rattle.lan_model.specs.Plain.{PlainType}
use Rattle.lan_schema.specs.FieldTree.{logical_of}
use Rattle.lan_schema.specs.Logical.{leaf_type, IsLeafType}

-- the logical type of a leaf type names it
abbrev pub NamesLeaf : PlainType ℕ → Type 0
NamesLeaf t = IsLeafType t → leaf_type (logical_of t) ≡ Some t

-- a text that names a type is that type's logical type
abbrev pub IsNamedOnce : List ℕ → PlainType ℕ → Type 0
IsNamedOnce s t = leaf_type s ≡ Some t → IsLeafType t × (s ≡ logical_of t)
