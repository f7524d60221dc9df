-- The data file that is written of the pages of columns.
use Rattle.std.specs.Prelude.{ℕ, ◌+◌, List, [], ◌∷◌, ◌++◌, length, map}
use Rattle.std.specs.List.{concat}
use Rattle.lan_model.specs.declared.range.Range.{Range}
use Rattle.lan_model.specs.Plain.{PlainFields}
use Rattle.lan_meta.specs.declared.page.BuiltPage.{BuiltPage}
use Rattle.lan_meta.specs.declared.page.PageMeta.{PageMeta}
use Rattle.lan_meta.specs.Written.{column_text}
use Rattle.lan_file.specs.Descriptor.{descriptor_text}
use Rattle.lan_file.specs.Writing.{aligned, entry_text, footer_for}

-- bytes with buffers behind them, each at the next multiple of 64
abbrev pub with_buffers : List ℕ → List (List ℕ) → List ℕ
with_buffers before [] = before
with_buffers before (buffer ∷ buffers) = with_buffers (aligned before ++ buffer) buffers

-- where each of them lies
abbrev pub places_behind : List ℕ → List (List ℕ) → List Range
places_behind before [] = []
places_behind before (buffer ∷ buffers) = record { at = length (aligned before); len = length buffer } ∷ places_behind (aligned before ++ buffer) buffers

-- bytes with the buffers of pages behind them
abbrev pub with_pages : List ℕ → List BuiltPage → List ℕ
with_pages before [] = before
with_pages before (page ∷ pages) = with_pages (with_buffers before page.buffers) pages

-- a page with the places of its buffers behind the bytes
abbrev pub page_behind : List ℕ → BuiltPage → PageMeta
page_behind before page = record { rows = page.rows; layout = page.layout; buffers = places_behind before page.buffers }

abbrev pub pages_behind : List ℕ → List BuiltPage → List PageMeta
pages_behind before [] = []
pages_behind before (page ∷ pages) = page_behind before page ∷ pages_behind (with_buffers before page.buffers) pages

-- bytes with the pages of columns behind them
abbrev pub with_columns : List ℕ → List (List BuiltPage) → List ℕ
with_columns before [] = before
with_columns before (column ∷ columns) = with_columns (with_pages before column) columns

-- the pages of each column with the places of their buffers
abbrev pub columns_behind : List ℕ → List (List BuiltPage) → List (List PageMeta)
columns_behind before [] = []
columns_behind before (column ∷ columns) = pages_behind before column ∷ columns_behind (with_pages before column) columns

-- the entries of parts that lie one after another from a place on
abbrev pub entries_from : ℕ → List (List ℕ) → List ℕ
entries_from at [] = []
entries_from at (part ∷ parts) = entry_text at (length part) ++ entries_from (at + length part) parts

-- a file of these buffers: behind them the descriptor at the next multiple of 64, and then without a gap the messages of the columns, their
-- table, the table of the one global buffer and the footer
abbrev pub file_with : List ℕ → List ℕ → List (List ℕ) → List ℕ
file_with buffers descriptor messages =
    let front = aligned buffers ++ descriptor in
    front
    ++ (concat messages
    ++ (entries_from (length front) messages ++ (entry_text (length (aligned buffers)) (length descriptor) ++ footer_for (length front) (length front + length (concat messages)) (length messages))))

-- the file of so many rows of the fields, whose leaves have these columns
unfoldable pub file_text : PlainFields ℕ → ℕ → List (List BuiltPage) → List ℕ
file_text fields rows columns = file_with (with_columns [] columns) (descriptor_text fields rows) (map column_text (columns_behind [] columns))
