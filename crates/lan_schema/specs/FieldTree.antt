-- The messages of a tree of fields, depth first, each under one number.
use Rattle.std.specs.Prelude.{ℕ, List, [], ◌++◌, ℤ, codes}
use Rattle.std.specs.Int.{w32, cast_signed}
use Rattle.std.specs.Fmt.{decimal}
use Rattle.lan_model.specs.declared.tree.Primitive.{Primitive}
use Rattle.lan_model.specs.declared.tree.Primitive.TheVariants as p
use Rattle.lan_model.specs.Plain.{PlainType, PlainField, PlainFields, primitive, vector, text, bytes, list, struct, field, no_fields, one_field}
use Rattle.lan_wire.specs.Spelling.{part_item}
use Rattle.lan_schema.specs.FieldMessage.{Flat, field_text}

-- the logical type of a primitive
abbrev pub name_of : Primitive → List ℕ
name_of p.Bool = codes "bool"
name_of p.Int8 = codes "int8"
name_of p.Int16 = codes "int16"
name_of p.Int32 = codes "int32"
name_of p.Int64 = codes "int64"
name_of p.Uint8 = codes "uint8"
name_of p.Uint16 = codes "uint16"
name_of p.Uint32 = codes "uint32"
name_of p.Uint64 = codes "uint64"
name_of p.Half = codes "halffloat"
name_of p.Float = codes "float"
name_of p.Double = codes "double"
name_of p.Date = codes "date32:day"

-- a list is written apart where its items are structs
abbrev pub list_name : PlainField ℕ → List ℕ
list_name (field id name nullable (primitive q)) = codes "list"
list_name (field id name nullable (vector q n)) = codes "list"
list_name (field id name nullable text) = codes "list"
list_name (field id name nullable bytes) = codes "list"
list_name (field id name nullable (list item)) = codes "list"
list_name (field id name nullable (struct members)) = codes "list.struct"

-- the logical type that the message names
abbrev pub logical_of : PlainType ℕ → List ℕ
logical_of (primitive q) = name_of q
logical_of (vector q n) = codes "fixed_size_list:" ++ name_of q ++ codes ":" ++ decimal n
logical_of text = codes "string"
logical_of bytes = codes "binary"
logical_of (list item) = list_name item
logical_of (struct members) = codes "struct"

-- the number of a type: for a parent of several fields, of one, or of none
abbrev pub type_number : PlainType ℕ → ℕ
type_number (primitive q) = 2
type_number (vector q n) = 2
type_number text = 2
type_number bytes = 2
type_number (list item) = 1
type_number (struct members) = 0

-- a field's number as the message has it
abbrev pub signed : ℕ → ℤ
signed id = cast_signed w32 id

-- what the message of a field inside a parent says
abbrev pub flat_field : ℤ → PlainField ℕ → Flat
flat_field parent (field id name nullable ty) = record { name = name; id = signed id; parent = parent; logical = logical_of ty; nullable = nullable }

-- that message
abbrev pub own_message : ℤ → PlainField ℕ → List ℕ
own_message parent (field id name nullable ty) = field_text (type_number ty) (flat_field parent (field id name nullable ty))

abbrev mutual
  -- the message of a field and of all inside it
  pub field_messages : ℕ → ℤ → PlainField ℕ → List ℕ
  field_messages number parent (field id name nullable ty) = part_item number (own_message parent (field id name nullable ty)) ++ inside_messages number (signed id) ty

  -- the messages of all that is inside a field of this type
  pub inside_messages : ℕ → ℤ → PlainType ℕ → List ℕ
  inside_messages number parent (primitive q) = []
  inside_messages number parent (vector q n) = []
  inside_messages number parent text = []
  inside_messages number parent bytes = []
  inside_messages number parent (list item) = field_messages number parent item
  inside_messages number parent (struct members) = all_messages number parent members

  -- the messages of fields and of all inside them
  pub all_messages : ℕ → ℤ → PlainFields ℕ → List ℕ
  all_messages number parent no_fields = []
  all_messages number parent (one_field f fs) = field_messages number parent f ++ all_messages number parent fs
