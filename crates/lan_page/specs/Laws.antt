-- What reasons mean.
use Rattle.std.specs.Prelude.{ℕ, List, Option, All}
use Rattle.lan_model.specs.Leaves.{PlainLeaf}
use Rattle.lan_levels.specs.PlainSlots.{PlainSlot}
use Rattle.lan_meta.specs.declared.page.PageMeta.{PageMeta}
use Rattle.lan_meta.specs.PageKeeps.{KeepsRules}
use Rattle.lan_page.specs.declared.fault.PageReason.{PageReason}
use Rattle.lan_page.specs.Asking.{ReasonStands}
use Rattle.lan_page.specs.Columns.{HoldsPages, ColumnReasonStands}
use Rattle.lan_page.specs.Held.{HoldsPage}

-- where a reason stands in an object, the page has no slots there
abbrev pub ReasonsRefute : Type 0
ReasonsRefute =
    (leaf : PlainLeaf) (page : PageMeta) (held : Option (List ℕ)) (slots : List PlainSlot) (reason : PageReason) (place : ℕ) → KeepsRules leaf page → ReasonStands page held reason place → HoldsPage leaf page held slots → ⊥

-- and where one stands in a column, the object has no such pages
abbrev pub ColumnsRefute : Type 0
ColumnsRefute =
    (leaf : PlainLeaf) (pages : List PageMeta) (held : Option (List ℕ)) (slots : List PlainSlot) (why : PageReason) (place : ℕ) → All (KeepsRules leaf) pages → ColumnReasonStands leaf pages held why place → HoldsPages leaf pages held slots → ⊥
