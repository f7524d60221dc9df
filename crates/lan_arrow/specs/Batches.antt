-- The batches of an Arrow file, each found by a block of the footer: a message in metadata of its own, and its body.
use Rattle.std.specs.Prelude.{◌≡◌, ◌≢◌, ℕ, zero, suc, ◌+◌, ◌*◌, ◌-◌, ◌^◌, ◌<◌, ◌≤◌, List, [], ◌∷◌, ◌++◌, length, take, drop}
use Rattle.lan_arrow.specs.Flat.{IsTable, Holds, offset_of, one_in, eight_in, four_at, eight_at, target_of, HasTable, HasVector}
use Rattle.lan_arrow.specs.Footer.{root_of, block_at}

-- what is read of a table RecordBatch at a place lies in the buffer
pub record BatchStands (bytes : List ℕ) (at : ℕ) : Type 0 where
  pub count : Holds bytes at 0 8
  pub nodes : HasVector bytes at 1 16
  pub buffers : HasVector bytes at 2 16

-- the place of a message's header
abbrev pub header_of : List ℕ → ℕ
header_of message = target_of message (root_of message) 2

-- what kind of header that is; 3 is a RecordBatch
abbrev pub kind_of : List ℕ → ℕ
kind_of message = one_in message (root_of message) 1

-- all tables, vectors and fields of a message that are read lie in it
pub record MessageStands (message : List ℕ) : Type 0 where
  pub long : 4 ≤ length message
  pub root : IsTable message (root_of message)
  pub kind : Holds message (root_of message) 1 1
  pub header : HasTable message (root_of message) 2
  pub batch : kind_of message ≡ 3 → BatchStands message (header_of message)

-- how many nodes and buffers a RecordBatch has
abbrev pub nodes_in : List ℕ → ℕ → ℕ
nodes_in bytes at = four_at bytes (target_of bytes at 1)

abbrev pub buffers_in : List ℕ → ℕ → ℕ
buffers_in bytes at = four_at bytes (target_of bytes at 2)

-- a RecordBatch is compressed
abbrev pub IsCompressed : List ℕ → ℕ → Type 0
IsCompressed bytes at = offset_of bytes at 3 ≢ 0

-- its one node has nulls
abbrev pub HasNulls : List ℕ → ℕ → Type 0
HasNulls bytes at = (nodes_in bytes at ≡ 1) × (eight_at bytes (target_of bytes at 1 + 12) ≢ 0)

-- it has one node of as many rows as it has itself, and two buffers, of which the second lies in the body and has room
-- for the rows
pub record HasRows (bytes : List ℕ) (at body : ℕ) : Type 0 where
  pub one : nodes_in bytes at ≡ 1
  pub two : buffers_in bytes at ≡ 2
  pub rows : eight_at bytes (target_of bytes at 1 + 4) ≡ eight_in bytes at 0
  pub room : 4 * eight_in bytes at 0 ≤ eight_at bytes (target_of bytes at 2 + 28)
  pub inside : eight_at bytes (target_of bytes at 2 + 20) + eight_at bytes (target_of bytes at 2 + 28) ≤ body

-- a RecordBatch at a place, with its body's length: rows without nulls, not compressed
pub record IsBatch (bytes : List ℕ) (at body : ℕ) : Type 0 where
  pub plain : ¬ IsCompressed bytes at
  pub whole : ¬ HasNulls bytes at
  pub rows : HasRows bytes at body

-- a message, with its body's length, that stands for such a batch
pub record IsMessage (message : List ℕ) (body : ℕ) : Type 0 where
  pub stands : MessageStands message
  pub kind : kind_of message ≡ 3
  pub batch : IsBatch message (header_of message) body

-- the metadata of the message at a place, behind the marker and the metadata's length
unfoldable pub message_at : List ℕ → ℕ → List ℕ
message_at file offset = take (four_at file (offset + 4)) (drop (offset + 8) file)

-- a block's parts lie in the file: the marker and the metadata in `head` bytes, and then the body
pub record BlockLies (file : List ℕ) (offset head body : ℕ) : Type 0 where
  pub signed : head < 2 ^ 31
  pub long : 8 ≤ head
  pub fits : offset + head + body ≤ length file
  pub marker : four_at file offset ≡ 2 ^ 32 - 1
  pub metadata : four_at file (offset + 4) + 8 ≤ head

-- the numbers of the i-th block of a footer: where it lies, how long the metadata is with all before it, and the body
unfoldable pub offset_at : List ℕ → ℕ → ℕ
offset_at footer i = eight_at footer (block_at footer i)

unfoldable pub head_at : List ℕ → ℕ → ℕ
head_at footer i = four_at footer (block_at footer i + 8)

unfoldable pub body_at : List ℕ → ℕ → ℕ
body_at footer i = eight_at footer (block_at footer i + 16)

-- the i-th block lies in the file
abbrev pub BlockLiesAt : List ℕ → List ℕ → ℕ → Type 0
BlockLiesAt file footer i = BlockLies file (offset_at footer i) (head_at footer i) (body_at footer i)

-- the message of the i-th block
abbrev pub message_of : List ℕ → List ℕ → ℕ → List ℕ
message_of file footer i = message_at file (offset_at footer i)

-- the tables of the i-th block's message stand, where the block lies in the file
abbrev pub TablesStand : List ℕ → List ℕ → ℕ → Type 0
TablesStand file footer i = BlockLiesAt file footer i → MessageStands (message_of file footer i)

-- the i-th block leads to a batch
pub record IsBlock (file footer : List ℕ) (i : ℕ) : Type 0 where
  pub lies : BlockLiesAt file footer i
  pub message : IsMessage (message_of file footer i) (body_at footer i)

-- the tables of the first n blocks stand
abbrev pub AllTablesStand : List ℕ → List ℕ → ℕ → Type 0
AllTablesStand file footer n = (i : ℕ) → i < n → TablesStand file footer i

-- the first n blocks lead to batches
abbrev pub AreBatches : List ℕ → List ℕ → ℕ → Type 0
AreBatches file footer n = (i : ℕ) → i < n → IsBlock file footer i

-- n numbers of four bytes from a place
abbrev pub numbers : List ℕ → ℕ → ℕ → List ℕ
numbers bytes at zero = []
numbers bytes at (suc n) = four_at bytes at ∷ numbers bytes (at + 4) n

-- how many rows a batch has, and where they begin in its body
unfoldable pub rows_in : List ℕ → ℕ
rows_in message = eight_in message (header_of message) 0

unfoldable pub rows_from : List ℕ → ℕ
rows_from message = eight_at message (target_of message (header_of message) 2 + 20)

-- where the rows of the i-th block begin in the file, and how many there are
abbrev pub block_from : List ℕ → List ℕ → ℕ → ℕ
block_from file footer i = offset_at footer i + head_at footer i + rows_from (message_of file footer i)

abbrev pub block_many : List ℕ → List ℕ → ℕ → ℕ
block_many file footer i = rows_in (message_of file footer i)

-- the rows of the i-th block
abbrev pub block_rows : List ℕ → List ℕ → ℕ → List ℕ
block_rows file footer i = numbers file (block_from file footer i) (block_many file footer i)

-- the rows of n blocks from the i-th on, one after another
abbrev pub rows_after : List ℕ → List ℕ → ℕ → ℕ → List ℕ
rows_after file footer i zero = []
rows_after file footer i (suc n) = block_rows file footer i ++ rows_after file footer (i + 1) n
