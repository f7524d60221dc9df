-- When a file is refused for a fragment. A refusal presumes that no condition above its own stands; of the rows, the
-- first is named that isn't below the fragment's physical rows or stands before already, whatever follows it.
use Rattle.std.specs.Prelude.{◌≡◌, ◌≢◌, ℕ, ◌<◌, ◌≤◌, ◌⊎◌, List, ◌∷◌, ◌++◌, length, true}
use Rattle.lan_bytes.specs.Placed.{Placed}
use Rattle.lan_arrow.specs.declared.fault.ArrowFault.{ArrowFault}
use Rattle.lan_arrow.specs.declared.fault.ArrowFault.TheVariants.{TooShort, Magic, Footer, Column, Dictionary, Row, Twice, Count, Memory}
use Rattle.lan_arrow.specs.Kept.{is_in}
use Rattle.lan_arrow.specs.Footer.{FooterStands, IsPlain, HasNoDictionary, IsFooter, schema_of}
use Rattle.lan_arrow.specs.BrokenFooter.{FooterBroken}
use Rattle.lan_arrow.specs.Batches.{AllTablesStand, AreBatches}
use Rattle.lan_arrow.specs.BrokenBatch.{TablesBroken, BlockRefused}
use Rattle.lan_arrow.specs.Deletions.{HasMagic, HasRoom, IsFramed, FileStands, IsFile, AreRows, footer_of, footer_in, blocks_in, all_rows}

-- the outer parts: too short, else no magic, else a footer that doesn't fit
unfoldable pub FrameRefused : List ℕ → ArrowFault → Type 0
FrameRefused file e =
    ((e ≡ TooShort) × (length file < 18))
    ⊎ ((e ≡ Magic) × (18 ≤ length file) × ¬ HasMagic file)
    ⊎ ((e ≡ Footer) × (18 ≤ length file) × HasMagic file × ¬ HasRoom file)

-- the messages of n blocks: a table of one doesn't stand, and those of the blocks before it do
unfoldable pub MessagesBroken : Placed → List ℕ → ℕ → ArrowFault → Type 0
MessagesBroken file footer n e =
    (k : ℕ) × (k < n) × AllTablesStand file.bytes footer k × TablesBroken file footer k e

-- the column of a footer: not plain, else with a dictionary
unfoldable pub ColumnRefused : List ℕ → ArrowFault → Type 0
ColumnRefused footer e =
    ((e ≡ Column) × ¬ IsPlain footer (schema_of footer))
    ⊎ ((e ≡ Dictionary) × IsPlain footer (schema_of footer) × ¬ HasNoDictionary footer)

-- one of n blocks is refused, and those before it lead to batches
unfoldable pub BatchesRefused : List ℕ → List ℕ → ℕ → ArrowFault → Type 0
BatchesRefused file footer n e = (k : ℕ) × (k < n) × AreBatches file footer k × BlockRefused file footer k e

-- a row isn't below `physical`, or is and stands in `done`
abbrev pub RowRefused : ℕ → List ℕ → ℕ → ArrowFault → Type 0
RowRefused physical done row e =
    ((e ≡ Row row) × (physical ≤ row)) ⊎ ((e ≡ Twice row) × (row < physical) × (is_in done row ≡ true))

-- one of the rows is refused, and those before it are right
unfoldable pub RowsRefused : ℕ → List ℕ → ArrowFault → Type 0
RowsRefused physical rows e =
    (done rest : List ℕ) × (row : ℕ) × (rows ≡ done ++ row ∷ rest) × AreRows physical done × RowRefused physical done row e

-- why bytes are no such file
unfoldable pub FileRefused : Placed → ArrowFault → Type 0
FileRefused file e =
    FrameRefused file.bytes e
    ⊎ (IsFramed file.bytes × FooterBroken (footer_in file) e)
    ⊎ (IsFramed file.bytes × FooterStands (footer_of file.bytes)
    × MessagesBroken file (footer_of file.bytes) (blocks_in file.bytes) e)
    ⊎ (FileStands file.bytes × ColumnRefused (footer_of file.bytes) e)
    ⊎ (FileStands file.bytes × IsFooter (footer_of file.bytes)
    × BatchesRefused file.bytes (footer_of file.bytes) (blocks_in file.bytes) e)

-- why they stand for no deleted rows of a fragment with that many physical rows, `count` of which are deleted
abbrev pub Refused : Placed → ℕ → ℕ → ArrowFault → Type 0
Refused file physical count e =
    (e ≡ Memory)
    ⊎ FileRefused file e
    ⊎ (IsFile file.bytes × RowsRefused physical (all_rows file.bytes) e)
    ⊎ (IsFile file.bytes × AreRows physical (all_rows file.bytes) × (e ≡ Count (length (all_rows file.bytes)))
    × (length (all_rows file.bytes) ≢ count))
