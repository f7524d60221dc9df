-- The pages of a column in an object, the slots of its rows, and why there are none.
use Rattle.std.specs.Prelude.{◌≡◌, ℕ, ◌+◌, ◌-◌, ◌<◌, ◌≤◌, List, [], ◌∷◌, ◌++◌, sum_by, Contains, Option}
use Rattle.lan_model.specs.Leaves.{PlainLeaf}
use Rattle.lan_levels.specs.PlainSlots.{PlainSlot}
use Rattle.lan_levels.specs.SlotsOf.{lists_in}
use Rattle.lan_levels.specs.Stretch.{bytes_in, cover}
use Rattle.lan_levels.specs.ZipRows.{slots_of_rows}
use Rattle.lan_meta.specs.declared.page.PageMeta.{PageMeta}
use Rattle.lan_zip.specs.declared.fault.ZipFault.{ZipFault}
use Rattle.lan_page.specs.declared.fault.PageReason.{PageReason}
use Rattle.lan_page.specs.declared.fault.PageReason.TheVariants as reason
use Rattle.lan_page.specs.Asking.{ReasonStands}
use Rattle.lan_page.specs.Giving.{FailsZip, IsContentPlace}
use Rattle.lan_page.specs.Held.{first_of, held_buffers, held_run, HoldsPage}

-- how many rows the pages have
abbrev pub rows_of : List PageMeta → ℕ
rows_of pages = sum_by (λ (page : PageMeta). page.rows) pages

-- the object has each of the pages, and one after another they have these slots
abbrev pub HoldsPages : PlainLeaf → List PageMeta → Option (List ℕ) → List PlainSlot → Type 0
HoldsPages leaf [] held slots = slots ≡ []
HoldsPages leaf (page ∷ pages) held slots =
    (first : List PlainSlot) × (later : List PlainSlot) × (slots ≡ first ++ later) × HoldsPage leaf page held first × HoldsPages leaf pages held later

-- these are the slots of a row of the column, where the object holds it
abbrev pub AreSlotsOfRow : PlainLeaf → List PageMeta → Option (List ℕ) → ℕ → List PlainSlot → Type 0
AreSlotsOfRow leaf pages held row slots = (all : List PlainSlot) → HoldsPages leaf pages held all → slots ≡ slots_of_rows (lists_in leaf.layers) row (row + 1) all

-- the bytes at the part of the content for some of a page's rows aren't the slots of so many rows
pub record FailsPart (leaf : PlainLeaf) (page : PageMeta) (held : Option (List ℕ)) (fault : ZipFault) (place : ℕ) : Type 0 where
  pub row : ℕ
  pub past : ℕ
  pub some : row < past
  pub within : past ≤ page.rows
  pub fails : FailsZip leaf page.layout (past - row) (bytes_in (first_of (held_buffers page held)) (cover (held_run leaf page held) row past)) fault
  pub at : IsContentPlace page.buffers place

-- why rows of a page aren't had of the object that is held, and where
abbrev pub RowsReasonStands : PlainLeaf → PageMeta → Option (List ℕ) → PageReason → ℕ → Type 0
RowsReasonStands leaf page held (reason.Zip fault) place = FailsPart leaf page held fault place
RowsReasonStands leaf page held why place = ReasonStands page held why place

-- the reason stands in one of the pages
pub record ColumnReasonStands (leaf : PlainLeaf) (pages : List PageMeta) (held : Option (List ℕ)) (why : PageReason) (place : ℕ) : Type 0 where
  pub page : PageMeta
  pub is_one : Contains pages page
  pub stands : RowsReasonStands leaf page held why place
