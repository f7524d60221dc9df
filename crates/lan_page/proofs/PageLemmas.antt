-- A page that an object holds: where its rows lie, and what their bytes are.
use Rattle.std.proofs.Common.{◌≡◌, ℕ, ◌+◌, ◌-◌, ◌*◌, ◌<◌, ◌≤◌, List, [], ◌∷◌, Option, Some, None, Result, Ok, Err, length, ap, ap₂, sym, subst, ◌∙◌, arith}
use Rattle.lan_model.specs.declared.range.Range.{Range}
use Rattle.lan_model.specs.Leaves.{PlainLeaf}
use Rattle.lan_levels.specs.declared.shape.ValueKind.{ValueKind}
use Rattle.lan_levels.specs.Offsets.{AreOffsets}
use Rattle.lan_levels.specs.PlainSlots.{PlainSlot}
use Rattle.lan_levels.specs.Runs.{Runs, even, placed, run, IsIndex}
use Rattle.lan_levels.specs.Stretch.{bytes_in, cover}
use Rattle.lan_levels.specs.ZipRows.{slot_width, zip_runs, slots_of_rows}
use Rattle.lan_levels.specs.ZipSlots.{IsZip}
use Rattle.lan_index.proofs.ZipPlaces.{zip_index, zip_pieces}
use Rattle.lan_meta.specs.declared.page.Layout.{Layout}
use Rattle.lan_meta.specs.declared.page.Layout.TheVariants.{Zip}
use Rattle.lan_meta.specs.declared.page.PageMeta.{PageMeta}
use Rattle.lan_meta.specs.PageOf.{page_form, ZipOf, LaidOut, buffers_in}
use Rattle.lan_meta.specs.PageRules.{EndBefore}
use Rattle.lan_meta.specs.PageRuns.{runs_by, runs_of}
use Rattle.lan_page.specs.declared.fault.PageFault.{PageFault}
use Rattle.lan_page.specs.declared.fault.PageFault.TheVariants.{Outside, Store, Memory}
use Rattle.lan_page.specs.Asking.{AnswersOf, IfHeld, part_held}
use Rattle.lan_page.specs.Held.{bytes_held, HasBuffers, held_buffers, HoldsPage, held_run, first_of}
use Rattle.lan_page.specs.Places.{range_stretch}
use Rattle.lan_page.proofs.Parts.{length-part}

-- a full-zip page with these buffers
pub record IsZipPage (page : PageMeta) (codes : List ℕ) (count : ℕ) (values : ValueKind) (content : Range) (more : List Range) : Type 0 where
  pub layout : page.layout ≡ Zip codes count values
  pub buffers : page.buffers ≡ content ∷ more

-- the first buffer ends where places can be counted
pub first_region : (bs : List Range) (content : Range) (more : List Range) (end : ℕ) → bs ≡ content ∷ more → EndBefore end bs → content.at + content.len ≤ end
first_region bs content more end e h =
    let all = subst (EndBefore end) e h in
    all 0 content (omega arith)

pub second_region : (bs : List Range) (content index : Range) (more : List Range) (end : ℕ) → bs ≡ content ∷ index ∷ more → EndBefore end bs → index.at + index.len ≤ end
second_region bs content index more end e h =
    let all = subst (EndBefore end) e h in
    all 1 content (omega arith)

first_held : (held : Option (List ℕ)) (b : Range) (bs : List Range) → HasBuffers held (b ∷ bs) → length (part_held held b) ≡ b.len
first_held None b bs h = absurd h
first_held (Some bytes) b bs h = length-part bytes b.at b.len (h 0 b (omega arith))

second_held : (held : Option (List ℕ)) (a b : Range) (bs : List Range) → HasBuffers held (a ∷ b ∷ bs) → length (part_held held b) ≡ b.len
second_held None a b bs h = absurd h
second_held (Some bytes) a b bs h = length-part bytes b.at b.len (h 1 b (omega arith))

module _ (leaf : PlainLeaf) (page : PageMeta) (held : Option (List ℕ)) (codes : List ℕ) (count : ℕ) (values : ValueKind) (content : Range) (more : List Range) (z : IsZipPage page codes count values content more) where
  pub runs_are : runs_of leaf page (held_buffers page held) ≡ zip_runs (page_form leaf codes values) (buffers_in (bytes_held held) more)
  runs_are = ap₂ (λ (l : Layout) (bs : List Range). runs_by leaf l (buffers_in (bytes_held held) bs)) z.layout z.buffers

  pub first_is : first_of (held_buffers page held) ≡ part_held held content
  first_is = ap (λ (bs : List Range). first_of (buffers_in (bytes_held held) bs)) z.buffers

  pub laid_is : (slots : List PlainSlot) → HoldsPage leaf page held slots → ZipOf (page_form leaf codes values) page.rows (part_held held content ∷ buffers_in (bytes_held held) more) slots
  laid_is slots h =
      let by_layout = subst (λ (l : Layout). LaidOut leaf page.rows l (held_buffers page held) slots) z.layout h.stands.laid in
      subst (λ (bs : List Range). ZipOf (page_form leaf codes values) page.rows (buffers_in (bytes_held held) bs) slots) z.buffers by_layout

  pub content_len : (slots : List PlainSlot) → HoldsPage leaf page held slots → length (part_held held content) ≡ content.len
  content_len slots h = first_held held content more (subst (HasBuffers held) z.buffers h.has)

  pub index_is : (slots : List PlainSlot) → HoldsPage leaf page held slots → IsIndex (zip_runs (page_form leaf codes values) (buffers_in (bytes_held held) more)) page.rows content.len
  index_is slots h =
      let laid = laid_is slots h in
      subst (IsIndex (zip_runs (page_form leaf codes values) (buffers_in (bytes_held held) more)) page.rows) (content_len slots h)
      (zip_index (page_form leaf codes values) page.rows (part_held held content) slots (buffers_in (bytes_held held) more) laid.0 laid.1)

  pub run_is : (row : ℕ) → run (zip_runs (page_form leaf codes values) (buffers_in (bytes_held held) more)) row ≡ held_run leaf page held row
  run_is row = ap (λ (r : Runs). run r row) (sym runs_are)

  -- the bytes of the cover of rows are their slots
  pub rows_zip : (slots : List PlainSlot) (row past : ℕ) (bytes : List ℕ) → HoldsPage leaf page held slots → row < past → past ≤ page.rows → bytes ≡ bytes_in (first_of (held_buffers page held)) (cover (held_run leaf page held) row past)
      → IsZip (page_form leaf codes values) (past - row) bytes (slots_of_rows (page_form leaf codes values).lists row past slots)
  rows_zip slots row past bytes h less le e =
      let laid = laid_is slots h in
      let f = page_form leaf codes values in
      let pieces = zip_pieces f page.rows (part_held held content) slots (buffers_in (bytes_held held) more) laid.0 laid.1 in
      let same : bytes ≡ bytes_in (part_held held content) (cover (run (zip_runs f (buffers_in (bytes_held held) more))) row past) =
      e ∙ ap₂ (λ (all : List ℕ) (r : Runs). bytes_in all (cover (run r) row past)) first_is runs_are in
      subst (λ (bs : List ℕ). IsZip f (past - row) bs (slots_of_rows f.lists row past slots)) (sym same) (pieces.pieces row past less le)

-- rows of one width
pub even_answer : (leaf : PlainLeaf) (page : PageMeta) (held : Option (List ℕ)) (codes : List ℕ) (count : ℕ) (values : ValueKind) (content part : Range) (row width : ℕ) → IsZipPage page codes count values content [] → width ≡ slot_width (page_form leaf codes values)
    → (IsIndex (even width) page.rows content.len → range_stretch part ≡ run (even width) row) → IfHeld leaf page held (range_stretch part ≡ held_run leaf page held row)
even_answer leaf page held codes count values content part row width z e f slots h =
    let is = subst (λ (w : ℕ). IsIndex (even w) page.rows content.len) (sym e) (index_is leaf page held codes count values content [] z slots h) in
    f is ∙ ap (λ (w : ℕ). run (even w) row) e ∙ run_is leaf page held codes count values content [] z row

-- rows whose places are listed
pub listed_answer : (leaf : PlainLeaf) (page : PageMeta) (held : Option (List ℕ)) (codes : List ℕ) (count : ℕ) (values : ValueKind) (content index : Range) (row : ℕ) (result : Result Range PageFault) → IsZipPage page codes count values content (index ∷ [])
    → AnswersOf page held (λ part. range_stretch part ≡ run (placed (part_held held index)) row) result → AnswersOf page held (λ part. IfHeld leaf page held (range_stretch part ≡ held_run leaf page held row)) result
listed_answer leaf page held codes count values content index row (Ok part) z a = λ slots h. a ∙ run_is leaf page held codes count values content (index ∷ []) z row
listed_answer leaf page held codes count values content index row (Err (Outside reason place)) z a = a
listed_answer leaf page held codes count values content index row (Err Store) z a = tt
listed_answer leaf page held codes count values content index row (Err Memory) z a = tt

pub offsets_are : (leaf : PlainLeaf) (page : PageMeta) (held : Option (List ℕ)) (codes : List ℕ) (count : ℕ) (values : ValueKind) (content index : Range) (slots : List PlainSlot) → IsZipPage page codes count values content (index ∷ []) → HoldsPage leaf page held slots
    → (index.len ≡ 8 * (page.rows + 1)) × AreOffsets page.rows content.len (part_held held index)
offsets_are leaf page held codes count values content index slots z h =
    let is = index_is leaf page held codes count values content (index ∷ []) z slots h in
    (sym (second_held held content index [] (subst (HasBuffers held) z.buffers h.has)) ∙ is.size, is)
