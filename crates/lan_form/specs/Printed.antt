-- The JSON of fields, which doesn't tell their numbers, the keys of an object in the order of their bytes.
use Rattle.std.specs.Prelude.{ℕ, Bool, List, [], ◌∷◌, codes}
use Rattle.json.specs.Token.{Token}
use Rattle.json.specs.Json as json
use Rattle.json.specs.Tree.{json_tokens, items_tokens}
use Rattle.json.specs.Print.{print}
use Rattle.lan_model.specs.Plain.{PlainType, primitive, vector, text, bytes, list, struct, PlainField, field, PlainFields, no_fields, one_field}
use Rattle.lan_schema.specs.FieldTree.{logical_of}

-- the text of a type in JSON, where every list is `list`
abbrev pub kind_of : {I : Type 0} → PlainType I → List ℕ
kind_of (list item) = codes "list"
kind_of (struct members) = codes "struct"
kind_of (primitive q) = logical_of (primitive q)
kind_of (vector q n) = logical_of (vector q n)
kind_of text = logical_of text
kind_of bytes = logical_of bytes

-- what every field says of itself
abbrev pub label_members : {I : Type 0} → List ℕ → Bool → PlainType I → json.Members
label_members name nullable ty =
    json.member (codes "name") (json.string name) (json.member (codes "nullable") (json.boolean nullable) (json.member (codes "type") (json.string (kind_of ty)) json.no_members))

abbrev mutual
  -- the object of a field
  pub field_json : {I : Type 0} → PlainField I → json.Json
  field_json (field id name nullable ty) = json.object (inside_json ty (label_members name nullable ty))

  -- the fields in a type, in front of what the field says of itself
  pub inside_json : {I : Type 0} → PlainType I → json.Members → json.Members
  inside_json (list item) label = json.member (codes "item") (field_json item) label
  inside_json (struct members) label = json.member (codes "fields") (json.array (fields_json members)) label
  inside_json (primitive q) label = label
  inside_json (vector q n) label = label
  inside_json text label = label
  inside_json bytes label = label

  pub fields_json : {I : Type 0} → PlainFields I → json.Items
  fields_json no_fields = json.no_items
  fields_json (one_field f fs) = json.item (field_json f) (fields_json fs)

-- the tokens of the fields in a type
abbrev pub inside_tokens : {I : Type 0} → PlainType I → List Token
inside_tokens (list item) = Token.key (codes "item") ∷ json_tokens (field_json item)
inside_tokens (struct members) = Token.key (codes "fields") ∷ Token.begin_array ∷ items_tokens (fields_json members)
inside_tokens (primitive q) = []
inside_tokens (vector q n) = []
inside_tokens text = []
inside_tokens bytes = []

-- the text of a schema, without white space
unfoldable pub json_of : {I : Type 0} → PlainFields I → List ℕ
json_of fields = print (json_tokens (json.array (fields_json fields)))
