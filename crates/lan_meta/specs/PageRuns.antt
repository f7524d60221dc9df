-- Where the rows of a page lie in its content buffer.
use Rattle.std.specs.Prelude.{ℕ, zero, suc, List, [], ◌∷◌, ◌++◌, length}
use Rattle.std.specs.Int.{w16}
use Rattle.lan_bytes.specs.Numbers.{low_first, numbers_of}
use Rattle.lan_model.specs.Leaves.{PlainLeaf}
use Rattle.lan_levels.specs.Chunks.{chunk_slots}
use Rattle.lan_levels.specs.Runs.{Runs, empty, chunked}
use Rattle.lan_levels.specs.ZipRows.{zip_runs}
use Rattle.lan_meta.specs.declared.page.Layout.{Layout}
use Rattle.lan_meta.specs.declared.page.Layout.TheVariants.{Constant, Mini, Zip}
use Rattle.lan_meta.specs.declared.page.PageMeta.{PageMeta}
use Rattle.lan_meta.specs.PageOf.{page_form}

-- the index of rows of the first chunks, so many of them, where each slot is a row
abbrev pub each_slot : List ℕ → ℕ → ℕ → List ℕ
each_slot words slots zero = []
each_slot words slots (suc n) = each_slot words slots n ++ low_first 8 (chunk_slots words slots n) ++ low_first 8 0

-- by the words of chunks, and the index of rows, where there is one
abbrev pub chunk_runs : ℕ → List (List ℕ) → Runs
chunk_runs slots (words ∷ chunks ∷ index ∷ more) = chunked slots (numbers_of w16 words) index
chunk_runs slots (words ∷ more) = chunked slots (numbers_of w16 words) (each_slot (numbers_of w16 words) slots (length (numbers_of w16 words)))
chunk_runs slots [] = empty

abbrev pub runs_by : PlainLeaf → Layout → List (List ℕ) → Runs
runs_by leaf (Constant codes count value) buffers = empty
runs_by leaf (Mini codes count values) buffers = chunk_runs count buffers
runs_by leaf (Zip codes count values) [] = empty
runs_by leaf (Zip codes count values) (content ∷ more) = zip_runs (page_form leaf codes values) more

-- by the layout, and the bytes of the buffers
abbrev pub runs_of : PlainLeaf → PageMeta → List (List ℕ) → Runs
runs_of leaf page buffers = runs_by leaf page.layout buffers
