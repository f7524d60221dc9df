-- Why a block leads to no batch of rows. `i` is the block's number.
use Rattle.std.specs.Prelude.{◌≡◌, ◌≢◌, ℕ, ◌+◌, ◌⊎◌, List}
use Rattle.lan_bytes.specs.Placed.{Placed, part_of}
use Rattle.lan_arrow.specs.declared.fault.ArrowFault.{ArrowFault}
use Rattle.lan_arrow.specs.declared.fault.ArrowFault.TheVariants.{Batch, Compressed, Nulls}
use Rattle.lan_arrow.specs.Flat.{four_at, Holds, HasTable}
use Rattle.lan_arrow.specs.Footer.{root_of}
use Rattle.lan_arrow.specs.Broken.{FieldPast, TableLacks, VectorLacks}
use Rattle.lan_arrow.specs.BrokenFooter.{HasRoot, RootBroken}
use Rattle.lan_arrow.specs.Batches.{header_of, kind_of, IsCompressed, HasNulls, HasRows, BlockLiesAt, message_of, body_at, offset_at}

-- a table, vector or field of a RecordBatch passes the buffer, or it lacks one that is needed
unfoldable pub BatchBroken : Placed → ℕ → ArrowFault → Type 0
BatchBroken buffer at e =
    FieldPast buffer at 0 8 e ⊎ VectorLacks buffer at 1 16 e ⊎ VectorLacks buffer at 2 16 e

-- the header of a message is a RecordBatch
pub record HasBatch (message : List ℕ) : Type 0 where
  pub root : HasRoot message
  pub kind_holds : Holds message (root_of message) 1 1
  pub kind : kind_of message ≡ 3
  pub header : HasTable message (root_of message) 2

-- the same of a message, whose header is read where it is a RecordBatch
unfoldable pub MessageBroken : Placed → ArrowFault → Type 0
MessageBroken message e =
    RootBroken message e
    ⊎ (HasRoot message.bytes × FieldPast message (root_of message.bytes) 1 1 e)
    ⊎ (HasRoot message.bytes × TableLacks message (root_of message.bytes) 2 e)
    ⊎ (HasBatch message.bytes × BatchBroken message (header_of message.bytes) e)

-- the message of the i-th block, with its place in the object
unfoldable pub message_in : Placed → List ℕ → ℕ → Placed
message_in file footer i = part_of file (offset_at footer i + 8) (four_at file.bytes (offset_at footer i + 4))

-- the i-th block lies in the file, and a table of its message doesn't stand
abbrev pub TablesBroken : Placed → List ℕ → ℕ → ArrowFault → Type 0
TablesBroken file footer i e = BlockLiesAt file.bytes footer i × MessageBroken (message_in file footer i) e

-- a RecordBatch is compressed; or it isn't and has nulls; or it has neither and breaks another rule
unfoldable pub BatchRefused : List ℕ → ℕ → ℕ → ℕ → ArrowFault → Type 0
BatchRefused bytes at body i e =
    ((e ≡ Compressed i) × IsCompressed bytes at)
    ⊎ ((e ≡ Nulls i) × ¬ IsCompressed bytes at × HasNulls bytes at)
    ⊎ ((e ≡ Batch i) × ¬ IsCompressed bytes at × ¬ HasNulls bytes at × ¬ HasRows bytes at body)

-- the i-th block doesn't lie in the file, or its message is no RecordBatch, or that is refused
unfoldable pub BlockRefused : List ℕ → List ℕ → ℕ → ArrowFault → Type 0
BlockRefused file footer i e =
    ((e ≡ Batch i) × ¬ BlockLiesAt file footer i)
    ⊎ ((e ≡ Batch i) × BlockLiesAt file footer i × (kind_of (message_of file footer i) ≢ 3))
    ⊎ (BlockLiesAt file footer i × (kind_of (message_of file footer i) ≡ 3)
    × BatchRefused (message_of file footer i) (header_of (message_of file footer i)) (body_at footer i) i e)
