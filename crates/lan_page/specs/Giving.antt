-- What is given of the slots of some rows of a page, by their bytes.
use Rattle.std.specs.Prelude.{◌≡◌, ℕ, ◌<◌, ◌≤◌, ⊤, List, [], ◌∷◌, ◌++◌, Option, Result, Ok, Err}
use Rattle.lan_model.specs.declared.range.Range.{Range}
use Rattle.lan_model.specs.Leaves.{PlainLeaf}
use Rattle.lan_levels.specs.PlainSlots.{PlainSlot}
use Rattle.lan_levels.specs.SlotsOf.{lists_in}
use Rattle.lan_levels.specs.ZipRows.{slots_of_rows}
use Rattle.lan_meta.specs.declared.page.Layout.{Layout}
use Rattle.lan_meta.specs.declared.page.Layout.TheVariants.{Zip}
use Rattle.lan_meta.specs.declared.page.PageMeta.{PageMeta}
use Rattle.lan_meta.specs.PageOf.{page_form}
use Rattle.lan_zip.specs.declared.fault.ZipFault.{ZipFault}
use Rattle.lan_zip.specs.Refusals.{Stands}
use Rattle.lan_page.specs.declared.cut.RowCut.{RowCut}
use Rattle.lan_page.specs.declared.fault.PageFault.{PageFault}
use Rattle.lan_page.specs.declared.fault.PageFault.TheVariants.{Outside, Memory}
use Rattle.lan_page.specs.declared.fault.PageReason.TheVariants as reason
use Rattle.lan_page.specs.Cuts.{IsCut}
use Rattle.lan_page.specs.Held.{HoldsPage}

-- the place of a page's content
abbrev pub IsContentPlace : List Range → ℕ → Type 0
IsContentPlace [] place = ⊥
IsContentPlace (content ∷ more) place = place ≡ content.at

-- the bytes aren't the slots of so many rows
abbrev pub FailsZip : PlainLeaf → Layout → ℕ → List ℕ → ZipFault → Type 0
FailsZip leaf (Zip codes count values) rows bytes fault = Stands (page_form leaf codes values) rows bytes fault
FailsZip leaf layout rows bytes fault = ⊥

-- why there are no slots of so many rows, by their bytes
abbrev pub FailsWalk : PlainLeaf → PageMeta → ℕ → List ℕ → PageFault → Type 0
FailsWalk leaf page rows bytes (Outside (reason.Zip fault) place) = FailsZip leaf page.layout rows bytes fault × IsContentPlace page.buffers place
FailsWalk leaf page rows bytes fault = ⊥

-- the slots were appended, or memory is wanting
abbrev pub Appends : List PlainSlot → List PlainSlot → List PlainSlot → Result Unit PageFault → Type 0
Appends slots old new (Ok answer) = new ≡ old ++ slots
Appends slots old new (Err Memory) = ⊤
Appends slots old new (Err fault) = ⊥

-- of a page that is held, by any cut of it for these rows, the rows' slots are given
abbrev pub GivesRows : PlainLeaf → PageMeta → ℕ → ℕ → RowCut → List ℕ → List PlainSlot → List PlainSlot → Result Unit PageFault → Type 0
GivesRows leaf page row past cut bytes old new result =
    (held : Option (List ℕ)) (slots : List PlainSlot) → HoldsPage leaf page held slots → row < past → past ≤ page.rows → IsCut leaf page held row past cut bytes
    → Appends (slots_of_rows (lists_in leaf.layers) row past slots) old new result

-- why none are given: the bytes aren't the slots of so many rows, or memory is wanting
abbrev pub RefusesRows : PlainLeaf → PageMeta → ℕ → List ℕ → PageFault → Type 0
RefusesRows leaf page rows bytes Memory = ⊤
RefusesRows leaf page rows bytes fault = FailsWalk leaf page rows bytes fault
