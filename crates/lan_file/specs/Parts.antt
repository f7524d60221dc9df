-- The parts of a data file: its footer, its tables, and the parts that they name.
use Rattle.std.specs.Prelude.{◌≡◌, ℕ, ◌+◌, ◌*◌, ◌-◌, ◌^◌, ◌≤◌, List, length, take, drop, codes}
use Rattle.std.specs.Int.{w16, w32, w64}
use Rattle.lan_bytes.specs.Numbers.{number_at}
use Rattle.lan_file.specs.declared.tail.Footer.{Footer}
use Rattle.lan_file.specs.declared.tail.Extent.{Extent}

-- an object that is read has at most 2^30 bytes
abbrev pub IsSmall : List ℕ → Type 0
IsSmall bytes = length bytes ≤ 2 ^ 30

-- so many bytes from a place on
abbrev pub part : List ℕ → ℕ → ℕ → List ℕ
part bytes at len = take len (drop at bytes)

-- the last 40 bytes
abbrev pub tail_of : List ℕ → List ℕ
tail_of bytes = drop (length bytes - 40) bytes

-- what 40 bytes say as a footer, which ends in a mark of four bytes
unfoldable pub footer_in : List ℕ → Footer
footer_in tail = record {
  columns_at = number_at w64 tail 0;
  column_table = number_at w64 tail 8;
  globals_table = number_at w64 tail 16;
  globals = number_at w32 tail 24;
  columns = number_at w32 tail 28;
  major = number_at w16 tail 32;
  minor = number_at w16 tail 34;
}

abbrev pub footer_of : List ℕ → Footer
footer_of bytes = footer_in (tail_of bytes)

-- what 16 bytes say as an entry of a table
unfoldable pub extent_in : List ℕ → Extent
extent_in entry = record { at = number_at w64 entry 0; size = number_at w64 entry 8 }

-- where global buffer 0, the descriptor, lies, by the first entry of the global buffers' table
abbrev pub descriptor_of : List ℕ → Extent
descriptor_of bytes = extent_in (part bytes (footer_of bytes).globals_table 16)

-- the bytes of a part
abbrev pub extent : List ℕ → Extent → List ℕ
extent bytes e = part bytes e.at e.size

-- a file of this format in version 2.1
pub record IsFile (bytes : List ℕ) : Type 0 where
  pub long : 40 ≤ length bytes
  pub mark : drop 36 (tail_of bytes) ≡ codes "LANC"
  pub major : (footer_of bytes).major ≡ 2
  pub minor : (footer_of bytes).minor ≡ 1

-- column metadata, both tables and the footer of a file of this size don't overlap, in this order
pub record InOrder (size : ℕ) (f : Footer) : Type 0 where
  pub columns : f.columns_at ≤ f.column_table
  pub column_table : f.column_table + 16 * f.columns ≤ f.globals_table
  pub globals_table : f.globals_table + 16 * f.globals + 40 ≤ size

-- column metadata 0, where there is one, lies between its bounds
pub record HasColumn (f : Footer) (column : Extent) : Type 0 where
  pub behind : f.columns_at ≤ column.at
  pub before : column.at + column.size ≤ f.column_table
