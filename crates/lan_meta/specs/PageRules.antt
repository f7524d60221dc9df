-- The rules of a page of a leaf.
use Rattle.std.specs.Prelude.{◌≡◌, ℕ, ◌+◌, ◌*◌, ◌/◌, ◌-◌, ◌<◌, ◌≤◌, ⊤, cond, nat_lt, List, length, slice_index, Option, Some, None, MatchOption, All, map}
use Rattle.std.specs.List.{zip}
use Rattle.lan_model.specs.declared.range.Range.{Range}
use Rattle.lan_model.specs.declared.tree.Layer.{Layer}
use Rattle.lan_model.specs.Fits.{width}
use Rattle.lan_model.specs.Leaves.{PlainLeaf}
use Rattle.lan_model.specs.Plain.{PlainType, primitive, vector}
use Rattle.lan_levels.specs.Codes.{FitCodes, states_of}
use Rattle.lan_levels.specs.SlotsOf.{lists_in}
use Rattle.lan_levels.specs.ZipForm.{digits}
use Rattle.lan_levels.specs.declared.shape.ValueKind.{ValueKind}
use Rattle.lan_levels.specs.declared.shape.ValueKind.TheVariants as stored
use Rattle.lan_meta.specs.declared.encoding.SaidPage.{SaidPage}
use Rattle.lan_meta.specs.declared.layout.SaidLayout.{SaidLayout}
use Rattle.lan_meta.specs.declared.message.MetaFault.{MetaFault}
use Rattle.lan_meta.specs.declared.message.MetaFault.TheVariants.{Layers, Counts, Values, Bits, Region}
use Rattle.lan_meta.specs.declared.page.Layout.{Layout}
use Rattle.lan_meta.specs.declared.page.Layout.TheVariants.{Constant, Mini, Zip}
use Rattle.lan_meta.specs.declared.page.PageMeta.{PageMeta}

-- ---- layers

abbrev pub codes_in : Layout → List ℕ
codes_in (Constant codes slots value) = codes
codes_in (Mini codes slots values) = codes
codes_in (Zip codes slots values) = codes

-- where all slots are the leaf's null, the item may be null
abbrev pub TakesNull : List ℕ → Option (List ℕ) → Type 0
TakesNull codes None = slice_index codes 0 ≡ 3
TakesNull codes (Some value) = ⊤

-- the codes fit the layers; a page of one value has no list layers
abbrev pub FitLayers : Layout → List Layer → Type 0
FitLayers (Constant codes slots value) layers = FitCodes codes layers × (lists_in layers ≡ 0) × TakesNull codes value
FitLayers (Mini codes slots values) layers = FitCodes codes layers
FitLayers (Zip codes slots values) layers = FitCodes codes layers

-- ---- counts

abbrev pub slots_of : Layout → ℕ
slots_of (Constant codes slots value) = slots
slots_of (Mini codes slots values) = slots
slots_of (Zip codes slots values) = slots

-- the number where there are list layers, or the other one
abbrev pub by_lists : List Layer → ℕ → ℕ → ℕ
by_lists layers some none = cond (nat_lt 0 (lists_in layers)) some none

-- how many buffers a full-zip page has: the slots, and where rows begin, unless each has one slot of one size
abbrev pub zip_buffers : ValueKind → List Layer → ℕ
zip_buffers stored.Variable layers = 2
zip_buffers values layers = by_lists layers 2 1

abbrev pub buffers_of : Layout → List Layer → ℕ
buffers_of (Constant codes slots value) layers = 0
buffers_of (Mini codes slots values) layers = by_lists layers 3 2
buffers_of (Zip codes slots values) layers = zip_buffers values layers

-- at least one row, a slot for each at least, and without list layers no other slots; a size for each offset, and as many as the layout takes
pub record FitCounts (page : SaidPage) (layers : List Layer) : Type 0 where
  pub some : 0 < page.rows
  pub slots : page.rows ≤ slots_of page.layout.layout
  pub alone : lists_in layers ≡ 0 → slots_of page.layout.layout ≡ page.rows
  pub sizes : length page.sizes ≡ length page.offsets
  pub buffers : length page.offsets ≡ buffers_of page.layout.layout layers

-- ---- values

-- how many bits each value has, where all have as many
abbrev pub bits_of : PlainType ℕ → Option ℕ
bits_of (primitive q) = Some (width q)
bits_of (vector q n) = Some (n * width q)
bits_of ty = None

-- the bytes are one value's: a bool has one byte
abbrev pub IsValue : PlainType ℕ → List ℕ → Type 0
IsValue ty value = MatchOption (bits_of ty) ⊤ (λ bits. length value ≡ (bits + 7) / 8)

-- values may be stored so: of one width in their bits, texts and bytes behind their lengths
abbrev pub FitsStored : PlainType ℕ → ValueKind → Type 0
FitsStored ty (stored.Flat bits) = bits_of ty ≡ Some bits
FitsStored ty stored.Variable = bits_of ty ≡ None
FitsStored ty (stored.Constant value) = IsValue ty value

-- a full-zip page has its own values
abbrev pub FitsZip : PlainType ℕ → ValueKind → Type 0
FitsZip ty (stored.Flat bits) = bits_of ty ≡ Some bits
FitsZip ty stored.Variable = bits_of ty ≡ None
FitsZip ty (stored.Constant value) = ⊥

abbrev pub FitsOne : PlainType ℕ → Option (List ℕ) → Type 0
FitsOne ty None = ⊤
FitsOne ty (Some value) = IsValue ty value

abbrev pub FitValues : Layout → PlainType ℕ → Type 0
FitValues (Constant codes slots value) ty = FitsOne ty value
FitValues (Mini codes slots values) ty = FitsStored ty values
FitValues (Zip codes slots values) ty = FitsZip ty values

-- ---- control words

-- the greatest number that the codes give a state
abbrev pub greatest_of : List ℕ → ℕ
greatest_of codes = length (states_of codes) - 1

-- the control words of a full-zip page have the digits of both numbers
abbrev pub FitBits : SaidLayout → Layout → List Layer → Type 0
FitBits said (Zip codes slots values) layers = (said.bits_rep ≡ digits (lists_in layers)) × (said.bits_def ≡ digits (greatest_of codes))
FitBits said layout layers = ⊤

-- ---- buffers

-- offsets with their sizes, as far as there are both
abbrev pub ranges_of : List ℕ → List ℕ → List Range
ranges_of offsets sizes = map (λ (p : ℕ × ℕ). record { at = p.0; len = p.1 }) (zip offsets sizes)

-- no buffer passes a place
abbrev pub EndBefore : ℕ → List Range → Type 0
EndBefore end buffers = All (λ (buffer : Range). buffer.at + buffer.len ≤ end) buffers

-- ---- all of them

-- the page keeps to the rules for the leaf, in a region of buffers that ends at a place
pub record Obeys (leaf : PlainLeaf) (end : ℕ) (page : SaidPage) : Type 0 where
  pub layers : FitLayers page.layout.layout leaf.layers
  pub counts : FitCounts page leaf.layers
  pub values : FitValues page.layout.layout leaf.ty
  pub bits : FitBits page.layout page.layout.layout leaf.layers
  pub region : EndBefore end (ranges_of page.offsets page.sizes)

-- a rule that a page breaks whose message lies at a place; those above it it keeps
abbrev pub BreaksRule : PlainLeaf → ℕ → SaidPage → ℕ → MetaFault → Type 0
BreaksRule leaf end page at (Layers place) = (place ≡ at) × (FitLayers page.layout.layout leaf.layers → ⊥)
BreaksRule leaf end page at (Counts place) = (place ≡ at) × FitLayers page.layout.layout leaf.layers × (FitCounts page leaf.layers → ⊥)
BreaksRule leaf end page at (Values place) = (place ≡ at) × FitLayers page.layout.layout leaf.layers × FitCounts page leaf.layers × (FitValues page.layout.layout leaf.ty → ⊥)
BreaksRule leaf end page at (Bits place) =
    (place ≡ at) × FitLayers page.layout.layout leaf.layers × FitCounts page leaf.layers × FitValues page.layout.layout leaf.ty × (FitBits page.layout page.layout.layout leaf.layers → ⊥)
BreaksRule leaf end page at (Region place) =
    (place ≡ at) × FitLayers page.layout.layout leaf.layers × FitCounts page leaf.layers × FitValues page.layout.layout leaf.ty × FitBits page.layout page.layout.layout leaf.layers × (EndBefore end (ranges_of page.offsets page.sizes) → ⊥)
BreaksRule leaf end page at fault = ⊥

-- the page without what only its rules need
abbrev pub meta_of : SaidPage → PageMeta
meta_of page = record { rows = page.rows; layout = page.layout.layout; buffers = ranges_of page.offsets page.sizes }
