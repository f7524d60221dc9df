-- What the steps of reading a file's tables give of its bytes.
use Rattle.std.specs.Prelude.{◌≡◌, ◌≢◌, ℕ, ◌+◌, ◌*◌, ◌-◌, ◌^◌, ◌<◌, ◌≤◌, ⊤, List, length, drop, codes, Contains, All, IsSomeAnd, Option, None, Result, Ok, Err}
use Rattle.lan_file.specs.declared.head.ColumnPick.{ColumnPick}
use Rattle.lan_file.specs.declared.head_fault.HeadFault.{HeadFault}
use Rattle.lan_file.specs.declared.head_fault.HeadFault.TheVariants.{Outside, Store, Memory}
use Rattle.lan_file.specs.declared.head_fault.HeadReason.TheVariants.{Missing, Short, Magic, Version, Region, Descriptor, Column}
use Rattle.lan_file.specs.declared.tables.Tables.{Tables}
use Rattle.lan_file.specs.declared.tail.Extent.{Extent}
use Rattle.lan_file.specs.declared.tail.Footer.{Footer}
use Rattle.lan_file.specs.Opening.{IsTail}
use Rattle.lan_file.specs.Parts.{part, footer_in, footer_of, extent_in, IsFile, InOrder, HasColumn, IsSmall}

-- the answer is the length of bytes that aren't too long
abbrev pub IsSizeOf : List ℕ → ℕ → Type 0
IsSizeOf bytes size = IsSmall bytes × (size ≡ length bytes)

-- the part was read, or the object lacks it
abbrev pub IsPieceOf : Option (List ℕ) → ℕ → ℕ → Result (List ℕ) HeadFault → Type 0
IsPieceOf held at len (Ok found) = IsSomeAnd held (λ bytes. (at + len ≤ length bytes) × (found ≡ part bytes at len))
IsPieceOf held at len (Err (Outside Missing place)) = (held ≡ None) × (place ≡ 0)
IsPieceOf held at len (Err (Outside Short place)) = IsSomeAnd held (λ bytes. length bytes < at + len)
IsPieceOf held at len (Err (Outside other place)) = ⊥
IsPieceOf held at len (Err Store) = ⊤
IsPieceOf held at len (Err Memory) = ⊤

-- what the last 40 bytes of so many give, or why they are no tail
abbrev pub JudgesFooter : ℕ → List ℕ → Result Footer HeadFault → Type 0
JudgesFooter size tail (Ok f) = IsTail size tail f
JudgesFooter size tail (Err (Outside Magic place)) = (drop 36 tail ≢ codes "LANC") × (place ≡ size - 4)
JudgesFooter size tail (Err (Outside (Version major minor) place)) =
    (drop 36 tail ≡ codes "LANC") × ((footer_in tail).major ≡ major) × ((footer_in tail).minor ≡ minor) × ((major ≡ 2) × (minor ≡ 1) → ⊥) × (place ≡ size - 8)
JudgesFooter size tail (Err (Outside Region place)) =
    (drop 36 tail ≡ codes "LANC") × ((footer_in tail).major ≡ 2) × ((footer_in tail).minor ≡ 1) × (InOrder size (footer_in tail) → ⊥) × (place ≡ size - 40)
JudgesFooter size tail (Err fault) = ⊥

-- the bytes are a file with these tables, which are in order
pub record IsTablesOf (bytes : List ℕ) (t : Tables) : Type 0 where
  pub small : IsSmall bytes
  pub file : IsFile bytes
  pub tables : InOrder (length bytes) (footer_of bytes)
  pub footer : t.footer ≡ footer_of bytes
  pub metadata : t.metadata ≡ part bytes (footer_of bytes).columns_at (length bytes - 40 - (footer_of bytes).columns_at)

-- both tables lie in the bytes that were read
pub record AreTables (t : Tables) : Type 0 where
  pub order : InOrder (t.footer.columns_at + length t.metadata + 40) t.footer
  pub small : t.footer.columns_at + length t.metadata + 40 ≤ 2 ^ 30

-- the entry of a table at a place of the file
abbrev pub entry_in : Tables → ℕ → Extent
entry_in t at = extent_in (part t.metadata (at - t.footer.columns_at) 16)

-- where the metadata of a column lies
abbrev pub column_in : Tables → ℕ → Extent
column_in t number = entry_in t (t.footer.column_table + 16 * number)

-- where the descriptor lies
abbrev pub descriptor_in : Tables → Extent
descriptor_in t = entry_in t t.footer.globals_table

abbrev pub KeepsColumn : Tables → ColumnPick → Type 0
KeepsColumn t pick = pick.column < t.footer.columns → HasColumn t.footer (column_in t pick.column)

abbrev pub KeepsDescriptor : Tables → Type 0
KeepsDescriptor t = 0 < t.footer.globals → (descriptor_in t).at + (descriptor_in t).size ≤ t.footer.columns_at

-- the descriptor and the metadata of the columns that are asked lie where they must
pub record KeepsParts (t : Tables) (picks : List ColumnPick) : Type 0 where
  pub descriptor : KeepsDescriptor t
  pub columns : All (KeepsColumn t) picks

-- there are a descriptor and the columns that are asked, and they lie where they must
pub record HasParts (t : Tables) (picks : List ColumnPick) : Type 0 where
  pub kept : KeepsParts t picks
  pub described : 0 < t.footer.globals
  pub there : All (λ (pick : ColumnPick). pick.column < t.footer.columns) picks

-- a column of this number is asked and isn't there
pub record LacksColumn (columns : ℕ) (picks : List ColumnPick) (number : ℕ) : Type 0 where
  pub pick : ColumnPick
  pub asked : Contains picks pick
  pub is : pick.column ≡ number
  pub lacks : columns ≤ number

-- where the descriptor lies, in tables with all parts that are asked, or which part isn't there
abbrev pub JudgesTables : Tables → List ColumnPick → Result Extent HeadFault → Type 0
JudgesTables t picks (Ok descriptor) = HasParts t picks × (descriptor ≡ descriptor_in t)
JudgesTables t picks (Err (Outside Region place)) = (KeepsParts t picks → ⊥) × (place ≡ t.footer.columns_at + length t.metadata)
JudgesTables t picks (Err (Outside Descriptor place)) = KeepsParts t picks × (t.footer.globals ≡ 0) × (place ≡ t.footer.globals_table)
JudgesTables t picks (Err (Outside (Column number) place)) = KeepsParts t picks × (0 < t.footer.globals) × LacksColumn t.footer.columns picks number × (place ≡ t.footer.column_table)
JudgesTables t picks (Err fault) = ⊥
