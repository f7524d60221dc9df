-- When the bytes of a page's buffers stand for slots of a leaf.
use Rattle.std.specs.Prelude.{◌≡◌, ℕ, List, [], ◌∷◌, length, map, take, drop, Option}
use Rattle.lan_model.specs.declared.range.Range.{Range}
use Rattle.lan_model.specs.Leaves.{PlainLeaf}
use Rattle.lan_levels.specs.declared.shape.ValueKind.{ValueKind}
use Rattle.lan_levels.specs.ConstantSlots.{constant_slots}
use Rattle.lan_levels.specs.PlainSlots.{PlainSlot}
use Rattle.lan_levels.specs.SlotsOf.{lists_in}
use Rattle.lan_levels.specs.ZipForm.{PlainForm, form_for, value_form}
use Rattle.lan_levels.specs.ZipRows.{HasPlaces}
use Rattle.lan_levels.specs.ZipSlots.{AreRows, IsZip}
use Rattle.lan_meta.specs.declared.page.Layout.{Layout}
use Rattle.lan_meta.specs.declared.page.Layout.TheVariants.{Constant, Mini, Zip}
use Rattle.lan_meta.specs.declared.page.PageMeta.{PageMeta}
use Rattle.lan_meta.specs.PageRules.{slots_of}
use Rattle.lan_meta.specs.Stage.{MiniOf}

-- how the slots of a full-zip page of a leaf are spelled
abbrev pub page_form : PlainLeaf → List ℕ → ValueKind → PlainForm
page_form leaf codes values = form_for codes leaf.layers (value_form leaf.ty values)

-- no buffers, and each of so many slots is the same
abbrev pub ConstantOf : PlainLeaf → ℕ → Option (List ℕ) → List (List ℕ) → List PlainSlot → Type 0
ConstantOf leaf count value buffers slots = (buffers ≡ []) × (slots ≡ constant_slots leaf.ty count value)

-- the first buffer is the slots of so many rows, one after another; where these aren't known otherwise, the second has the places of the rows
abbrev pub ZipOf : PlainForm → ℕ → List (List ℕ) → List PlainSlot → Type 0
ZipOf f rows [] slots = ⊥
ZipOf f rows (content ∷ places) slots = IsZip f rows content slots × HasPlaces f rows content slots places

-- a layout's buffers are the slots of so many rows of a leaf
abbrev pub LaidOut : PlainLeaf → ℕ → Layout → List (List ℕ) → List PlainSlot → Type 0
LaidOut leaf rows (Constant codes count value) buffers slots = ConstantOf leaf count value buffers slots
LaidOut leaf rows (Mini codes count values) buffers slots = MiniOf leaf rows codes count values buffers slots
LaidOut leaf rows (Zip codes count values) buffers slots = ZipOf (page_form leaf codes values) rows buffers slots

-- buffers with these bytes stand for these slots as a page of the leaf: as many as the page states, in as many rows
pub record IsPage (leaf : PlainLeaf) (page : PageMeta) (buffers : List (List ℕ)) (slots : List PlainSlot) : Type 0 where
  pub laid : LaidOut leaf page.rows page.layout buffers slots
  pub count : length slots ≡ slots_of page.layout
  pub rows_are : AreRows (lists_in leaf.layers) page.rows slots

-- the bytes of buffers in an object
abbrev pub buffers_in : List ℕ → List Range → List (List ℕ)
buffers_in bytes buffers = map (λ (b : Range). take b.len (drop b.at bytes)) buffers

-- bytes stand for one list of slots at most
abbrev pub OneListOfSlots : Type 0
OneListOfSlots = (leaf : PlainLeaf) (page : PageMeta) (buffers : List (List ℕ)) (xs ys : List PlainSlot) → IsPage leaf page buffers xs → IsPage leaf page buffers ys → xs ≡ ys
