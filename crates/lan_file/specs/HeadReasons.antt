-- Why an object isn't a data file with the columns that are asked, and where each reason stands.
use Rattle.std.specs.Prelude.{◌≡◌, ◌≢◌, ℕ, ◌-◌, ◌^◌, ◌<◌, ◌≤◌, ⊤, List, length, drop, codes, Contains, IsSomeAnd, Option, Some, None, Result, Ok, Err}
use Rattle.lan_store.specs.declared.name.Name.{Name}
use Rattle.lan_wire.specs.Messages.{FailsToRead}
use Rattle.lan_wire.specs.Rules.{open_to}
use Rattle.lan_meta.specs.declared.message.MetaFault.{MetaFault}
use Rattle.lan_meta.specs.declared.message.MetaFault.TheVariants as meta
use Rattle.lan_meta.specs.declared.page.PageMeta.{PageMeta}
use Rattle.lan_meta.specs.Columns.{RefusesColumn}
use Rattle.lan_file.specs.declared.descriptor.TheConstants.{FILE_DESCRIPTOR}
use Rattle.lan_file.specs.declared.head_fault.HeadFault.{HeadFault}
use Rattle.lan_file.specs.declared.head_fault.HeadFault.TheVariants as fault
use Rattle.lan_file.specs.declared.head_fault.HeadReason.{HeadReason}
use Rattle.lan_file.specs.declared.head_fault.HeadReason.TheVariants.{Missing, Size, Short, TooShort, Magic, Version, Region, Descriptor, Column, Wire, Meta, ColumnRows}
use Rattle.lan_file.specs.Descriptor.{StatesRows}
use Rattle.lan_file.specs.Heads.{Pick, placed, column_at, KeepsRegions, IsWhole, PagesOfPick, rows_in}
use Rattle.lan_file.specs.Parts.{tail_of, footer_of, descriptor_of, IsFile, IsSmall}

-- a column of this number is asked
pub record IsAsked (picks : List Pick) (number : ℕ) : Type 0 where
  pub pick : Pick
  pub asked : Contains picks pick
  pub is : pick.column ≡ number

-- the place of a fault in column metadata; what lacks something has none
abbrev pub place_of : MetaFault → ℕ
place_of (meta.Wire f) = f.at
place_of (meta.Unsupported message number at) = at
place_of (meta.Missing message number) = 0
place_of (meta.Layers at) = at
place_of (meta.Counts at) = at
place_of (meta.Values at) = at
place_of (meta.Bits at) = at
place_of (meta.Region at) = at
place_of meta.Memory = 0

-- the metadata of a column that is asked is none of its leaf
pub record RefusesPick (picks : List Pick) (bytes : List ℕ) (error : MetaFault) : Type 0 where
  pub pick : Pick
  pub asked : Contains picks pick
  pub refused : RefusesColumn (placed bytes (column_at bytes pick.column)) pick.leaf (footer_of bytes).columns_at error
  pub no_want : error ≢ meta.Memory

-- the rows of a column of this number, which is asked, don't add up to those of the descriptor
pub record MissesRows (picks : List Pick) (bytes : List ℕ) (number : ℕ) : Type 0 where
  pub pick : Pick
  pub asked : Contains picks pick
  pub is : pick.column ≡ number
  pub pages : List PageMeta
  pub pages_are : PagesOfPick bytes pick pages
  pub rows : ℕ
  pub stated : StatesRows (placed bytes (descriptor_of bytes)) rows
  pub differ : rows_in pages ≢ rows

-- the reason stands in the bytes at the place, and none does that it presumes not to
abbrev pub HeadStandsIn : List Pick → List ℕ → HeadReason → ℕ → Type 0
HeadStandsIn picks bytes Missing place = ⊥
HeadStandsIn picks bytes Size place = (2 ^ 30 < length bytes) × (place ≡ length bytes)
HeadStandsIn picks bytes Short place = ⊥
HeadStandsIn picks bytes TooShort place = (length bytes < 40) × (place ≡ length bytes)
HeadStandsIn picks bytes Magic place = IsSmall bytes × (40 ≤ length bytes) × (drop 36 (tail_of bytes) ≢ codes "LANC") × (place ≡ length bytes - 4)
HeadStandsIn picks bytes (Version major minor) place =
    IsSmall bytes × (40 ≤ length bytes) × (drop 36 (tail_of bytes) ≡ codes "LANC") × ((footer_of bytes).major ≡ major) × ((footer_of bytes).minor ≡ minor) × ((major ≡ 2) × (minor ≡ 1) → ⊥) × (place ≡ length bytes - 8)
HeadStandsIn picks bytes Region place = IsSmall bytes × IsFile bytes × (KeepsRegions picks bytes → ⊥) × (place ≡ length bytes - 40)
HeadStandsIn picks bytes Descriptor place = IsSmall bytes × IsFile bytes × KeepsRegions picks bytes × ((footer_of bytes).globals ≡ 0) × (place ≡ (footer_of bytes).globals_table)
HeadStandsIn picks bytes (Column number) place =
    IsSmall bytes × IsFile bytes × KeepsRegions picks bytes × (0 < (footer_of bytes).globals) × IsAsked picks number × ((footer_of bytes).columns ≤ number) × (place ≡ (footer_of bytes).column_table)
HeadStandsIn picks bytes (Wire error) place = IsSmall bytes × IsWhole picks bytes × FailsToRead (open_to FILE_DESCRIPTOR) (placed bytes (descriptor_of bytes)) error × (place ≡ error.at)
HeadStandsIn picks bytes (Meta error) place = IsSmall bytes × IsWhole picks bytes × RefusesPick picks bytes error × (place ≡ place_of error)
HeadStandsIn picks bytes (ColumnRows number) place = IsSmall bytes × IsWhole picks bytes × MissesRows picks bytes number × (place ≡ (column_at bytes number).at)

-- the reason stands for what is held under the name, at the place
abbrev pub HeadStands : List Pick → Option (List ℕ) → HeadReason → ℕ → Type 0
HeadStands picks held Missing place = (held ≡ None) × (place ≡ 0)
HeadStands picks held reason place = IsSomeAnd held (λ bytes. HeadStandsIn picks bytes reason place)

-- the fault's reason stands
abbrev pub HeadBreaks : List Pick → Option (List ℕ) → HeadFault → Type 0
HeadBreaks picks held (fault.Outside reason place) = HeadStands picks held reason place
HeadBreaks picks held fault.Store = ⊤
HeadBreaks picks held fault.Memory = ⊤

-- the answer's fact holds of the object's bytes, or its fault's reason stands
abbrev pub ReadsHead : {A : Type 0} → List Pick → (List ℕ → A → Type 0) → Option (List ℕ) → Result A HeadFault → Type 0
ReadsHead picks Holds held (Ok answer) = IsSomeAnd held (λ bytes. Holds bytes answer)
ReadsHead picks Holds held (Err fault) = HeadBreaks picks held fault

-- the name at which the store failed, by what was answered of the object of this name
abbrev pub head_fault_failure : Name → HeadFault → Option Name
head_fault_failure name fault.Store = Some name
head_fault_failure name other = None

abbrev pub head_failure : {A : Type 0} → Name → Result A HeadFault → Option Name
head_failure name (Ok answer) = None
head_failure name (Err error) = head_fault_failure name error
