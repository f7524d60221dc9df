-- The trees of fields stand for them.
use Rattle.std.proofs.Common.{◌≡◌, ℕ, refl, ap, ◌∙◌, arith, List, Bool}
use Rattle.std.specs.Prelude.{Option, Some, option_map}
use Rattle.lan_model.specs.declared.tree.Primitive.{Primitive}
use Rattle.lan_model.specs.declared.tree.Primitive.TheVariants as kind
use Rattle.lan_model.specs.Plain.{PlainType, primitive, vector, text, bytes, list, struct, PlainField, field, PlainFields, no_fields, one_field}
use Rattle.lan_model.specs.Table.{IsField, AreFields}
use Rattle.lan_schema.specs.declared.shape.Shape.{Shape}
use Rattle.lan_schema.specs.declared.shape.Shape.TheVariants as shape
use Rattle.lan_schema.specs.FieldTree.{name_of, logical_of, list_name, signed}
use Rattle.lan_schema.specs.FieldsOf.{typed, type_of, labelled, with_others, with_members, fields_of}
use Rattle.lan_schema.specs.Forest.{Label, Trees, none}
use Rattle.lan_schema.specs.Shapes.{shape_of}
use Rattle.lan_schema.specs.Written.{trees_in, tree_before, trees_of, CanTellType, CanTell, CanTellAll}
use Rattle.lan_schema.proofs.WrittenTrees.{natural_again}
use Rattle.lan_schema.proofs.LeafNames.{names_leaf}

-- the fields inside a type
abbrev members_in : PlainType ℕ → PlainFields ℕ
members_in (list item) = one_field item no_fields
members_in (struct members) = members
members_in _ = no_fields

pub shape_list : (f : PlainField ℕ) → shape_of (list_name f) ≡ shape.List
unfolding shape_of
shape_list (field id name nullable (primitive q)) = refl
shape_list (field id name nullable (vector q n)) = refl
shape_list (field id name nullable text) = refl
shape_list (field id name nullable bytes) = refl
shape_list (field id name nullable (list item)) = refl
shape_list (field id name nullable (struct members)) = refl

pub shape_name : (q : Primitive) → shape_of (name_of q) ≡ shape.Leaf
unfolding shape_of
shape_name kind.Bool = refl
shape_name kind.Int8 = refl
shape_name kind.Int16 = refl
shape_name kind.Int32 = refl
shape_name kind.Int64 = refl
shape_name kind.Uint8 = refl
shape_name kind.Uint16 = refl
shape_name kind.Uint32 = refl
shape_name kind.Uint64 = refl
shape_name kind.Half = refl
shape_name kind.Float = refl
shape_name kind.Double = refl
shape_name kind.Date = refl

pub shape_vector : (q : Primitive) (n : ℕ) → shape_of (logical_of (vector q n)) ≡ shape.Leaf
unfolding shape_of
shape_vector q n = refl

pub shape_text : shape_of (logical_of text) ≡ shape.Leaf
unfolding shape_of
shape_text = refl

pub shape_bytes : shape_of (logical_of bytes) ≡ shape.Leaf
unfolding shape_of
shape_bytes = refl

pub shape_struct : (members : PlainFields ℕ) → shape_of (logical_of (struct members)) ≡ shape.Struct
unfolding shape_of
shape_struct members = refl

by_shape : (s : Shape) (logical : List ℕ) (ms : PlainFields ℕ) → shape_of logical ≡ s → type_of logical ms ≡ typed s logical ms
by_shape s logical ms e = ap (λ (t : Shape). typed t logical ms) e

-- a written type is read as itself
type_again : (id : ℕ) (name : List ℕ) (nullable : Bool) (ty : PlainType ℕ) → IsField (field id name nullable ty) → type_of (logical_of ty) (members_in ty) ≡ Some ty
type_again id name nullable (primitive q) h = by_shape shape.Leaf (name_of q) no_fields (shape_name q) ∙ names_leaf (primitive q) tt
type_again id name nullable (vector q n) h = by_shape shape.Leaf (logical_of (vector q n)) no_fields (shape_vector q n) ∙ names_leaf (vector q n) h
type_again id name nullable text h = by_shape shape.Leaf (logical_of text) no_fields shape_text ∙ names_leaf text tt
type_again id name nullable bytes h = by_shape shape.Leaf (logical_of bytes) no_fields shape_bytes ∙ names_leaf bytes tt
type_again id name nullable (list item) h = by_shape shape.List (list_name item) (one_field item no_fields) (shape_list item)
type_again id name nullable (struct no_fields) h = absurd (omega (arith, h.0.0))
type_again id name nullable (struct (one_field f fs)) h = by_shape shape.Struct (logical_of (struct (one_field f fs))) (one_field f fs) (shape_struct (one_field f fs))

mutual
  inside_again : (ty : PlainType ℕ) (id : ℕ) (name : List ℕ) (nullable : Bool) → CanTellType ty → IsField (field id name nullable ty) → fields_of (trees_in ty) ≡ Some (members_in ty)
  inside_again (primitive q) id name nullable told h = refl
  inside_again (vector q n) id name nullable told h = refl
  inside_again text id name nullable told h = refl
  inside_again bytes id name nullable told h = refl
  inside_again (list item) id name nullable told h = field_again item no_fields none told h refl
  inside_again (struct members) id name nullable told h = fields_again members told h.1

  field_again : (f : PlainField ℕ) (fs : PlainFields ℕ) (others : Trees) → CanTell f → IsField f → fields_of others ≡ Some fs → fields_of (tree_before f others) ≡ Some (one_field f fs)
  field_again (field id name nullable ty) fs others told h beside =
      let l : Label = record { name = name; id = signed id; logical = logical_of ty; nullable = nullable } in
      ap (λ (o : Option (PlainFields ℕ)). with_members l o (fields_of others)) (inside_again ty id name nullable told.2 h)
      ∙ ap (with_others l (members_in ty)) beside
      ∙ ap (option_map (labelled l fs)) (type_again id name nullable ty h)
      ∙ ap (λ (n : ℕ). Some (one_field (field n name nullable ty) fs)) (natural_again id told.0)

  pub fields_again : (fs : PlainFields ℕ) → CanTellAll fs → AreFields fs → fields_of (trees_of fs) ≡ Some fs
  fields_again no_fields told h = refl
  fields_again (one_field f fs) told h = field_again f fs (trees_of fs) told.0 h.0 (fields_again fs told.1 h.1)
