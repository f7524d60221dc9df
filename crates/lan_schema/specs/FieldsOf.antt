-- Which fields the messages of fields stand for.
use Rattle.std.specs.Prelude.{◌≡◌, ◌≢◌, ℕ, ◌≤◌, List, [], ℤ, pos, negsuc, Option, Some, None, option_map}
use Rattle.lan_bytes.specs.Placed.{Placed}
use Rattle.lan_model.specs.Plain.{PlainType, list, struct, field, PlainFields, no_fields, one_field}
use Rattle.lan_schema.specs.declared.shape.Shape.{Shape}
use Rattle.lan_schema.specs.declared.shape.Shape.TheVariants as shape
use Rattle.lan_schema.specs.FieldMessage.{Flat}
use Rattle.lan_schema.specs.FieldMessages.{SaysFields}
use Rattle.lan_schema.specs.Forest.{Label, Trees, none, tree, forest}
use Rattle.lan_schema.specs.Listed.{has_bad_id, repeats, is_orphan, is_nameless, has_namesake, is_untyped, miscounts, is_deep, leaves_in, Lacks}
use Rattle.lan_schema.specs.Logical.{leaf_type}
use Rattle.lan_schema.specs.Shapes.{shape_of}

-- the type of a shape with these fields inside
abbrev pub typed : Shape → List ℕ → PlainFields ℕ → Option (PlainType ℕ)
typed shape.Struct logical no_fields = None
typed shape.Struct logical (one_field f fs) = Some (struct (one_field f fs))
typed shape.List logical no_fields = None
typed shape.List logical (one_field f no_fields) = Some (list f)
typed shape.List logical (one_field f (one_field g fs)) = None
typed shape.Leaf logical no_fields = leaf_type logical
typed shape.Leaf logical (one_field f fs) = None

-- the type of a logical type with these fields inside
abbrev pub type_of : List ℕ → PlainFields ℕ → Option (PlainType ℕ)
type_of logical members = typed (shape_of logical) logical members

-- a number that isn't negative
abbrev pub natural : ℤ → ℕ
natural (pos n) = n
natural (negsuc n) = 0

-- a field of this type before others
abbrev pub labelled : Label → PlainFields ℕ → PlainType ℕ → PlainFields ℕ
labelled l others ty = one_field (field (natural l.id) l.name l.nullable ty) others

-- a field with fields inside it, before others
abbrev pub with_others : Label → PlainFields ℕ → Option (PlainFields ℕ) → Option (PlainFields ℕ)
with_others l members None = None
with_others l members (Some others) = option_map (labelled l others) (type_of l.logical members)

abbrev pub with_members : Label → Option (PlainFields ℕ) → Option (PlainFields ℕ) → Option (PlainFields ℕ)
with_members l None others = None
with_members l (Some members) others = with_others l members others

-- the fields that the trees stand for, if each has a type
abbrev pub fields_of : Trees → Option (PlainFields ℕ)
fields_of none = Some no_fields
fields_of (tree l inside others) = with_members l (fields_of inside) (fields_of others)

-- each field has a number of its own and is listed behind its parent
pub record AreLinked (fs : List Flat) : Type 0 where
  pub ids : Lacks has_bad_id [] fs
  pub once : Lacks repeats [] fs
  pub parents : Lacks is_orphan [] fs

-- each field has a name of its own among its siblings
pub record AreNamed (fs : List Flat) : Type 0 where
  pub some : Lacks is_nameless [] fs
  pub apart : Lacks has_namesake [] fs

-- each field has a type, and as many fields inside it as that takes
pub record AreTyped (fs : List Flat) : Type 0 where
  pub types : Lacks is_untyped [] fs
  pub children : Lacks miscounts [] fs

-- the rules of fields that lie flat
pub record ObeyRules (fs : List Flat) : Type 0 where
  pub some : fs ≢ []
  pub linked : AreLinked fs
  pub named : AreNamed fs
  pub typed : AreTyped fs
  pub layers : Lacks is_deep [] fs
  pub leaves : leaves_in fs ≤ 1024

-- the items of the number in the message are fields that lie flat and obey the rules, and their trees are these fields
pub record FieldsOf (message : Placed) (number : ℕ) (fields : PlainFields ℕ) : Type 0 where
  pub flats : List Flat
  pub said : SaysFields message number flats
  pub rules : ObeyRules flats
  pub trees : fields_of (forest (negsuc 0) flats) ≡ Some fields
