-- An Arrow file of one column of unsigned numbers of 32 bits, each a deleted row. Its parts, from the front: the magic
-- and two bytes, messages with their bodies, the footer, the footer's length in four bytes, the magic. The footer names
-- the column and has a block for each batch; a block leads to a message and its body. All lengths are signed numbers
-- in the format, and are read here as unsigned: where the format has none below 0, they are below half of the range.
use Rattle.std.specs.Prelude.{◌≡◌, ℕ, ◌+◌, ◌-◌, ◌^◌, ◌<◌, ◌≤◌, List, length, codes, nat_eq, take, drop}
use Rattle.std.specs.List.{All, IsDistinct}
use Rattle.std.specs.List.Sorted.{IsPermutation, IsStrictlyIncreasing}
use Rattle.lan_bytes.specs.Placed.{Placed, part_of}
use Rattle.lan_arrow.specs.Flat.{four_at, VectorAt}
use Rattle.lan_arrow.specs.Footer.{FooterStands, IsFooter, blocks_at, block_count}
use Rattle.lan_arrow.specs.Batches.{AllTablesStand, AreBatches, rows_after}

-- the first six bytes, and the last
abbrev pub magic : List ℕ
magic = codes "ARROW1"

-- so many bytes from a place
abbrev pub part : List ℕ → ℕ → ℕ → List ℕ
part bytes at len = take len (drop at bytes)

-- a file begins and ends with the magic
pub record HasMagic (file : List ℕ) : Type 0 where
  pub front : part file 0 6 ≡ magic
  pub back : part file (length file - 6) 6 ≡ magic

-- how long the footer is, and where it lies
unfoldable pub footer_length : List ℕ → ℕ
footer_length file = four_at file (length file - 10)

abbrev pub footer_place : List ℕ → ℕ
footer_place file = length file - 10 - footer_length file

unfoldable pub footer_of : List ℕ → List ℕ
footer_of file = part file (footer_place file) (footer_length file)

-- the footer with its place in the object
unfoldable pub footer_in : Placed → Placed
footer_in file = part_of file (footer_place file.bytes) (footer_length file.bytes)

-- the footer lies between the magic with its two bytes and the footer's length
pub record HasRoom (file : List ℕ) : Type 0 where
  pub signed : footer_length file < 2 ^ 31
  pub room : footer_length file + 18 ≤ length file

-- the outer parts stand
pub record IsFramed (file : List ℕ) : Type 0 where
  pub long : 18 ≤ length file
  pub magic : HasMagic file
  pub room : HasRoom file

-- the vector of the footer's blocks
abbrev pub blocks_of : Placed → VectorAt
blocks_of file = blocks_at (footer_in file)

-- how many blocks the footer of a file has
abbrev pub blocks_in : List ℕ → ℕ
blocks_in file = block_count (footer_of file)

-- the outer parts stand, and all tables, vectors and fields of the footer and of the messages that are read
pub record FileStands (file : List ℕ) : Type 0 where
  pub framed : IsFramed file
  pub footer : FooterStands (footer_of file)
  pub messages : AllTablesStand file (footer_of file) (blocks_in file)

-- a file whose column is one of deleted rows, and each block of which leads to a batch
pub record IsFile (file : List ℕ) : Type 0 where
  pub framed : IsFramed file
  pub footer : IsFooter (footer_of file)
  pub batches : AreBatches file (footer_of file) (blocks_in file)

-- the rows of all batches, one after another
abbrev pub all_rows : List ℕ → List ℕ
all_rows file = rows_after file (footer_of file) 0 (blocks_in file)

-- rows that a file may have: below `physical` and distinct
pub record AreRows (physical : ℕ) (rows : List ℕ) : Type 0 where
  pub below : All (λ row. row < physical) rows
  pub distinct : IsDistinct nat_eq rows

-- the file stands for these rows: those of its batches are distinct, below `physical` and `count` many, and `deleted`
-- is their rising list
pub record DeletionsOf (file : List ℕ) (physical count : ℕ) (deleted : List ℕ) : Type 0 where
  pub stands : IsFile file
  pub rows : AreRows physical (all_rows file)
  pub many : length (all_rows file) ≡ count
  pub rising : IsStrictlyIncreasing deleted
  pub same : IsPermutation (all_rows file) deleted
