-- The footer of an Arrow file whose schema is one plain column of unsigned numbers of 32 bits.
use Rattle.std.specs.Prelude.{◌≡◌, ℕ, ◌+◌, ◌*◌, ◌≤◌, List, length}
use Rattle.lan_bytes.specs.Placed.{Placed}
use Rattle.lan_arrow.specs.Flat.{VectorAt, IsTable, Holds, offset_of, one_in, two_in, four_in, four_at, target_at, target_of, HasTable, HasVector, MayHaveVector, count_in}

-- what is read of a table Int at a place lies in the buffer
pub record IntStands (bytes : List ℕ) (at : ℕ) : Type 0 where
  pub width : Holds bytes at 0 4
  pub sign : Holds bytes at 1 1

-- a table Field lies at a place, with all that is read of it; its type is read where it is that of whole numbers
pub record FieldStands (bytes : List ℕ) (at : ℕ) : Type 0 where
  pub kind : Holds bytes at 2 1
  pub number : HasTable bytes at 3
  pub whole : one_in bytes at 2 ≡ 2 → IntStands bytes (target_of bytes at 3)
  pub children : MayHaveVector bytes at 5 4

-- the place of the first field of the Schema at a place
abbrev pub field_of : List ℕ → ℕ → ℕ
field_of bytes at = target_at bytes (target_of bytes at 1 + 4)

-- how many fields it has
abbrev pub fields_in : List ℕ → ℕ → ℕ
fields_in bytes at = four_at bytes (target_of bytes at 1)

-- a table Schema at a place, with all that is read of it; its field is read where it is the only one
pub record SchemaStands (bytes : List ℕ) (at : ℕ) : Type 0 where
  pub order : Holds bytes at 0 2
  pub fields : HasVector bytes at 1 4
  pub table : fields_in bytes at ≡ 1 → IsTable bytes (field_of bytes at)
  pub field : fields_in bytes at ≡ 1 → FieldStands bytes (field_of bytes at)

-- the place of a footer's table, and of its schema's
abbrev pub root_of : List ℕ → ℕ
root_of bytes = target_at bytes 0

abbrev pub schema_of : List ℕ → ℕ
schema_of footer = target_of footer (root_of footer) 1

-- all tables, vectors and fields of a footer that are read lie in it
pub record FooterStands (footer : List ℕ) : Type 0 where
  pub long : 4 ≤ length footer
  pub root : IsTable footer (root_of footer)
  pub schema_there : HasTable footer (root_of footer) 1
  pub schema : SchemaStands footer (schema_of footer)
  pub dictionaries : MayHaveVector footer (root_of footer) 2 24
  pub blocks : HasVector footer (root_of footer) 3 24

-- a Field at a place is of unsigned whole numbers of 32 bits, without children
pub record IsPlainField (bytes : List ℕ) (at : ℕ) : Type 0 where
  pub kind : one_in bytes at 2 ≡ 2
  pub width : four_in bytes (target_of bytes at 3) 0 ≡ 32
  pub unsigned : one_in bytes (target_of bytes at 3) 1 ≡ 0
  pub childless : count_in bytes at 5 ≡ 0

-- a Schema at a place is of one such field, with the lowest byte first
pub record IsPlain (bytes : List ℕ) (at : ℕ) : Type 0 where
  pub order : two_in bytes at 0 ≡ 0
  pub one : fields_in bytes at ≡ 1
  pub field : IsPlainField bytes (field_of bytes at)

-- neither the field nor the file has a dictionary
pub record HasNoDictionary (footer : List ℕ) : Type 0 where
  pub field : offset_of footer (field_of footer (schema_of footer)) 4 ≡ 0
  pub file : count_in footer (root_of footer) 2 ≡ 0

-- a footer whose column is one of deleted rows
pub record IsFooter (footer : List ℕ) : Type 0 where
  pub stands : FooterStands footer
  pub plain : IsPlain footer (schema_of footer)
  pub dictionary : HasNoDictionary footer

-- the vector of a footer's blocks, of 24 bytes each
abbrev pub blocks_at : Placed → VectorAt
blocks_at footer = record { buffer = footer; at = target_of footer.bytes (root_of footer.bytes) 3; width = 24 }

-- how many blocks a footer has, and the place of its i-th block
unfoldable pub block_count : List ℕ → ℕ
block_count footer = four_at footer (target_of footer (root_of footer) 3)

unfoldable pub block_at : List ℕ → ℕ → ℕ
block_at footer i = target_of footer (root_of footer) 3 + 4 + i * 24
