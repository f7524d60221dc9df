-- What the writer writes of a column.
use Rattle.std.specs.Prelude.{ℕ, ◌+◌, Bool, ◌||◌, nat_eq, nat_lt, count_by, List, [], ◌∷◌, Option, Some, None, map}
use Rattle.lan_model.specs.declared.range.Range.{Range}
use Rattle.lan_levels.specs.declared.shape.ValueKind.{ValueKind}
use Rattle.lan_levels.specs.declared.shape.ValueKind.TheVariants as stored
use Rattle.lan_wire.specs.Written.{WrittenField, num, part, packed, parts, spelling_of}
use Rattle.lan_meta.specs.declared.page.Layout.{Layout}
use Rattle.lan_meta.specs.declared.page.Layout.TheVariants.{Constant, Mini, Zip}
use Rattle.lan_meta.specs.declared.page.PageMeta.{PageMeta}
use Rattle.lan_meta.specs.PageRules.{greatest_of}
use Rattle.lan_levels.specs.ZipForm.{digits}

-- how values are stored, as the one member of its message
abbrev pub values_written : ValueKind → List WrittenField
values_written (stored.Flat bits) = (1, part (spelling_of ((1, num bits) ∷ []))) ∷ []
values_written stored.Variable = (2, part []) ∷ []
values_written (stored.Constant value) = (3, part (spelling_of ((1, part value) ∷ []))) ∷ []

abbrev pub values_text : ValueKind → List ℕ
values_text values = spelling_of (values_written values)

-- the value of all slots, if there is one
abbrev pub value_written : Option (List ℕ) → List WrittenField
value_written None = []
value_written (Some value) = (3, part value) ∷ []

-- whether a code is a list's
abbrev pub is_list : ℕ → Bool
is_list code = nat_eq code 2 || nat_lt 3 code

abbrev pub constant_written : List ℕ → ℕ → Option (List ℕ) → List WrittenField
constant_written codes slots value = (1, packed codes) ∷ (2, num slots) ∷ value_written value

abbrev pub mini_written : List ℕ → ℕ → ValueKind → List WrittenField
mini_written codes slots values = (1, packed codes) ∷ (2, num slots) ∷ (3, part (values_text values)) ∷ []

abbrev pub zip_written : List ℕ → ℕ → ValueKind → List WrittenField
zip_written codes slots values =
    (1, packed codes) ∷ (2, num slots) ∷ (3, part (values_text values)) ∷ (4, num (digits (count_by is_list codes))) ∷ (5, num (digits (greatest_of codes))) ∷ []

-- a layout as the one member of its message
abbrev pub layout_written : Layout → List WrittenField
layout_written (Mini codes slots values) = (1, part (spelling_of (mini_written codes slots values))) ∷ []
layout_written (Constant codes slots value) = (2, part (spelling_of (constant_written codes slots value))) ∷ []
layout_written (Zip codes slots values) = (3, part (spelling_of (zip_written codes slots values))) ∷ []

abbrev pub layout_text : Layout → List ℕ
layout_text layout = spelling_of (layout_written layout)

abbrev pub direct_text : Layout → List ℕ
direct_text layout = spelling_of ((1, part (layout_text layout)) ∷ [])

abbrev pub encoding_text : Layout → List ℕ
encoding_text layout = spelling_of ((2, part (direct_text layout)) ∷ [])

-- a page's fields: where its buffers lie, its rows, how it is encoded, and the rows before it, which are its priority
abbrev pub parts_written : List ℕ → List ℕ → ℕ → List ℕ → ℕ → List WrittenField
parts_written offsets sizes rows encoding before = (1, packed offsets) ∷ (2, packed sizes) ∷ (3, num rows) ∷ (4, part encoding) ∷ (5, num before) ∷ []

-- a page behind so many rows
abbrev pub page_written : ℕ → PageMeta → List WrittenField
page_written before page = parts_written (map (λ (b : Range). b.at) page.buffers) (map (λ (b : Range). b.len) page.buffers) page.rows (encoding_text page.layout) before

abbrev pub page_texts : ℕ → List PageMeta → List (List ℕ)
page_texts before [] = []
page_texts before (page ∷ pages) = spelling_of (page_written before page) ∷ page_texts (before + page.rows) pages

-- the writer's one spelling of a column
abbrev pub column_text : List PageMeta → List ℕ
column_text pages = spelling_of ((2, parts (page_texts 0 pages)) ∷ [])
