-- When bytes stand for a column of a leaf, and why they don't.
use Rattle.std.specs.Prelude.{◌≡◌, ◌⊎◌, ℕ, List}
use Rattle.lan_bytes.specs.Placed.{Placed}
use Rattle.lan_model.specs.Leaves.{PlainLeaf}
use Rattle.lan_wire.specs.declared.item.Item.{Item}
use Rattle.lan_wire.specs.Messages.{ReadsAs, FailsOr, ReadEach, FailsInOne}
use Rattle.lan_wire.specs.Rules.{open_to}
use Rattle.lan_wire.specs.Values.{parts_under}
use Rattle.lan_meta.specs.declared.encoding.SaidPage.{SaidPage}
use Rattle.lan_meta.specs.declared.message.Message.TheVariants as message
use Rattle.lan_meta.specs.declared.message.MetaFault.{MetaFault}
use Rattle.lan_meta.specs.declared.message.MetaFault.TheVariants.{Memory}
use Rattle.lan_meta.specs.declared.page.PageMeta.{PageMeta}
use Rattle.lan_meta.specs.declared.reading.TheConstants.{COLUMN_METADATA}
use Rattle.lan_meta.specs.Faults.{fault_in}
use Rattle.lan_meta.specs.PageMessages.{SaysPage, FailsPage}
use Rattle.lan_meta.specs.PageRules.{Obeys, BreaksRule, meta_of}

-- the bytes of a Page message stand for a page of the leaf
pub record StandsForPage (leaf : PlainLeaf) (end : ℕ) (part : Placed) (page : PageMeta) : Type 0 where
  pub whole : SaidPage
  pub said : SaysPage part whole
  pub obeys : Obeys leaf end whole
  pub is : page ≡ meta_of whole

-- a message that can be read breaks a rule
pub record BreaksAtPage (leaf : PlainLeaf) (end : ℕ) (part : Placed) (error : MetaFault) : Type 0 where
  pub whole : SaidPage
  pub said : SaysPage part whole
  pub breaks : BreaksRule leaf end whole part.base error

-- the bytes of a Page message stand for no page of the leaf; memory may want
abbrev pub RefusesPage : PlainLeaf → ℕ → Placed → MetaFault → Type 0
RefusesPage leaf end part error = (error ≡ Memory) ⊎ FailsPage part error ⊎ BreaksAtPage leaf end part error

-- each Page message stands for one of these pages, in order
abbrev pub PagesSaid : PlainLeaf → ℕ → List Item → List PageMeta → Type 0
PagesSaid leaf end items pages = ReadEach (StandsForPage leaf end) (parts_under 2 items) pages

-- the bytes are the metadata of a column of the leaf with these pages, whose buffers end at or before a place
abbrev pub ColumnOf : Placed → PlainLeaf → ℕ → List PageMeta → Type 0
ColumnOf message leaf end pages = ReadsAs (open_to COLUMN_METADATA) (PagesSaid leaf end) message pages

-- one of the Page messages stands for no page; memory may want
abbrev pub PagesRefused : PlainLeaf → ℕ → List Item → MetaFault → Type 0
PagesRefused leaf end items error = (error ≡ Memory) ⊎ FailsInOne (RefusesPage leaf end) (parts_under 2 items) error

-- why the bytes are no column's; memory may want
abbrev pub RefusesColumn : Placed → PlainLeaf → ℕ → MetaFault → Type 0
RefusesColumn part leaf end error = FailsOr (fault_in message.ColumnMetadata) (open_to COLUMN_METADATA) (PagesRefused leaf end) part error
