-- What is fetched of a page.
use Rattle.std.proofs.Common.{◌≡◌, ℕ, ◌+◌, ◌-◌, ◌*◌, ◌<◌, ◌≤◌, List, [], ◌∷◌, ◌++◌, Option, Some, None, Result, Ok, Err, IfOk, IfSome, IfNone, IsSomeAnd, length, take, drop, slice_get, map, refl, ap, ap₂, sym, subst, ◌∙◌, inl, inr, arith, append-nil, length-take}
use Rattle.std.proofs.Math.Nat.{mul-le-mul_left}
use Rattle.std.specs.Int.{w64}
use Rattle.std.specs.List.{concat}
use Rattle.lan_bytes.specs.Numbers.{number_at}
use Rattle.lan_model.specs.declared.range.Range.{Range}
use Rattle.lan_model.specs.declared.range.Span.{Span}
use Rattle.lan_model.specs.Leaves.{PlainLeaf}
use Rattle.lan_levels.specs.Offsets.{place_at}
use Rattle.lan_levels.specs.Runs.{placed}
use Rattle.lan_levels.specs.Stretch.{Stretch, size, bytes_in, cover}
use Rattle.lan_store.specs.Budget.{Budget, plus, Asks}
use Rattle.lan_store.specs.Telling.{Telling}
use Rattle.lan_index.proofs.PastLemmas.{cover_is}
use Rattle.lan_index.proofs.RunLemmas.{inside}
use Rattle.lan_meta.specs.declared.page.Layout.{Layout}
use Rattle.lan_meta.specs.declared.page.Layout.TheVariants.{Constant, Mini, Zip}
use Rattle.lan_meta.specs.declared.page.PageMeta.{PageMeta}
use Rattle.lan_meta.specs.PageOf.{buffers_in}
use Rattle.lan_page.specs.declared.cut.RowCut.{RowCut}
use Rattle.lan_page.specs.declared.fault.PageFault.{PageFault}
use Rattle.lan_page.specs.declared.fault.PageFault.TheVariants.{Outside, Store, Memory}
use Rattle.lan_page.specs.declared.fault.PageReason.TheVariants.{Missing, Short, Index, Content, Zip as ZipReason, Start, Rows}
use Rattle.lan_page.specs.Asking.{AnswersOf, IfHeld, part_held, IsNear, IsPartOf, index_ranges, IsIndexOf, IsFullZip, PassesEnd, HasSome, first_len}
use Rattle.lan_page.specs.Cuts.{one_span, span_stretch, spans_for, AreBytesAt, IsCut}
use Rattle.lan_page.specs.Held.{bytes_held, held_buffers, held_run, first_of}
use Rattle.lan_page.specs.Places.{range_stretch}
use Rattle.lan_page.proofs.Parts.{part-part, number_part}

pub one_item : (xs : List Range) (a : Range) → length xs ≡ 1 → slice_get xs 0 ≡ Some a → xs ≡ a ∷ []
one_item [] a n e = absurd (omega arith)
one_item (x ∷ []) a n e = let same : x ≡ a = cc in ap (λ (r : Range). r ∷ []) same
one_item (x ∷ y ∷ xs) a n e = absurd (omega arith)

pub two_items : (xs : List Range) (a b : Range) → length xs ≡ 2 → slice_get xs 0 ≡ Some a → slice_get xs 1 ≡ Some b → xs ≡ a ∷ b ∷ []
two_items [] a b n e f = absurd (omega arith)
two_items (x ∷ []) a b n e f = absurd (omega arith)
two_items (x ∷ y ∷ []) a b n e f =
    let first : x ≡ a = cc in
    let second : y ≡ b = cc in
    ap₂ (λ (r s : Range). r ∷ s ∷ []) first second
two_items (x ∷ y ∷ z ∷ xs) a b n e f = absurd (omega arith)

pub asks_add : {a b : Budget} {s t u : Telling} → Asks a s t → Asks b t u → Asks (plus a b) s u
asks_add x y =
    let xr = x.ranges in
    let xb = x.bytes in
    let yr = y.ranges in
    let yb = y.bytes in
    record { ranges = record { later = omega arith; within = omega arith }; bytes = record { later = omega arith; within = omega arith } }

pub asks_more : {a : Budget} {s t : Telling} (b : Budget) → Asks a s t → Asks (plus a b) s t
asks_more b x =
    let xr = x.ranges in
    let xb = x.bytes in
    record { ranges = record { later = omega arith; within = omega arith }; bytes = record { later = omega arith; within = omega arith } }

stretch_size : (part : Range) → size (range_stretch part) ≡ part.len
stretch_size part = omega arith

pub part_size : (part : Range) (s : Stretch) → range_stretch part ≡ s → part.len ≡ size s
part_size part s e = sym (stretch_size part) ∙ ap size e

pub content_bytes : (page : PageMeta) (held : Option (List ℕ)) (content part r : Range) (more : List Range) (old new : List ℕ) → page.buffers ≡ content ∷ more → part.at + part.len ≤ content.len → r ≡ record { at = content.at + part.at; len = part.len } → old ≡ []
    → new ≡ old ++ take r.len (drop r.at (bytes_held held)) → new ≡ bytes_in (first_of (held_buffers page held)) (range_stretch part)
content_bytes page held content part r more old new buffers within is none read =
    let bytes = bytes_held held in
    let first : first_of (held_buffers page held) ≡ part_held held content = ap (λ (bs : List Range). first_of (buffers_in bytes bs)) buffers in
    read
    ∙ ap (λ (bs : List ℕ). bs ++ take r.len (drop r.at bytes)) none
    ∙ ap (λ (x : Range). take x.len (drop x.at bytes)) is
    ∙ sym (part-part bytes content.at content.len part.at part.len within)
    ∙ ap₂ (λ (n : ℕ) (all : List ℕ). take n (drop part.at all)) (sym (stretch_size part)) (sym first)

-- one part that was fetched is the cut's
pub one_part : (page : PageMeta) (held : Option (List ℕ)) (part : Range) (cut : RowCut) (bytes : List ℕ) → cut ≡ record { skip = 0; spans = record { at = part.at; len = part.len; first = 0; slots = 0 } ∷ [] } → bytes ≡ bytes_in (first_of (held_buffers page held)) (range_stretch part) → AreBytesAt page held cut bytes
one_part page held part cut bytes made read =
    let all = first_of (held_buffers page held) in
    read ∙ sym (append-nil (bytes_in all (range_stretch part))) ∙ ap (λ (c : RowCut). concat (map (λ (s : Span). bytes_in all (span_stretch s)) c.spans)) (sym made)

content_within : (bytes : List ℕ) (bs : List Range) → length (first_of (buffers_in bytes bs)) ≤ first_len bs
content_within bytes [] = omega arith
content_within bytes (b ∷ bs) = let n = length-take b.len (drop b.at bytes) in omega arith

-- the content is no longer than the page says
pub content_fits : (page : PageMeta) (held : Option (List ℕ)) → length (first_of (held_buffers page held)) ≤ first_len page.buffers
content_fits page held = content_within (bytes_held held) page.buffers

-- a row's two places are those of the whole
pub near_is : (held : Option (List ℕ)) (rows content row : ℕ) (index : Range) (two : List ℕ) (from past : ℕ) (found : Option Range) → index.len ≡ 8 * (rows + 1) → row < rows → two ≡ take 16 (drop (index.at + 8 * row) (bytes_held held))
    → from ≡ place_at two 0 → past ≡ place_at two 1 → IfSome found (λ part. (range_stretch part ≡ record { from = from; past = past }) × (past ≤ content) × (from ≤ past)) → IfNone found (from ≤ past → past ≤ content → ⊥)
    → IsNear rows content (part_held held index) row found
near_is held rows content row index two from past found whole less read first second some none =
    let bytes = bytes_held held in
    let at = index.at + 8 * row in
    let a : from ≡ place_at (part_held held index) row =
    first ∙ ap (λ (bs : List ℕ). number_at w64 bs 0) read ∙ number_part bytes at 16 0 (omega arith) ∙ ap (number_at w64 bytes) (let e : at + 0 ≡ index.at + 8 * row = omega arith in e) ∙ sym (number_part bytes index.at index.len (8 * row) (omega arith)) in
    let b : past ≡ place_at (part_held held index) (row + 1) =
    second ∙ ap (λ (bs : List ℕ). number_at w64 bs 8) read ∙ number_part bytes at 16 8 (omega arith) ∙ ap (number_at w64 bytes) (let e : at + 8 ≡ index.at + 8 * (row + 1) = omega arith in e) ∙ sym (number_part bytes index.at index.len (8 * (row + 1)) (omega arith)) in
    near_found found a b some none
  where
    near_found : (found : Option Range) → from ≡ place_at (part_held held index) row → past ≡ place_at (part_held held index) (row + 1) → IfSome found (λ part. (range_stretch part ≡ record { from = from; past = past }) × (past ≤ content) × (from ≤ past))
        → IfNone found (from ≤ past → past ≤ content → ⊥) → IsNear rows content (part_held held index) row found
    near_found (Some part) a b some none = some.0 ∙ ap₂ (λ (x y : ℕ). let s : Stretch = record { from = x; past = y } in s) a b
    near_found None a b some none = λ o.
        let i = inside (placed (part_held held index)) rows content row o less in
        let order = i.order in
        let within = i.within in
        none (omega arith) (omega arith)

-- a row alone is its cover
pub cover_alone : (r : ℕ → Stretch) (row : ℕ) → r row ≡ cover r row (row + 1)
cover_alone r row = let e : row ≡ row + 1 - 1 = omega arith in cover_is r row (row + 1) (r row) refl (ap (λ (k : ℕ). (r k).past) e)

pub even_order : (width content row : ℕ) → width * row ≤ width * (row + 1)
even_order width content row = mul-le-mul_left width (let l : row ≤ row + 1 = omega arith in l)

spans_zip : (l : Layout) (s : Stretch) → IsFullZip l → spans_for l s ≡ one_span s ∷ []
spans_zip (Constant codes count value) s h = absurd h
spans_zip (Mini codes count values) s h = absurd h
spans_zip (Zip codes count values) s h = refl

-- what is fetched of a full-zip page is the cut of the rows whose cover it is
pub zip_cut : (leaf : PlainLeaf) (page : PageMeta) (held : Option (List ℕ)) (row past : ℕ) (part : Range) (cut : RowCut) (bytes : List ℕ) → IsFullZip page.layout → range_stretch part ≡ cover (held_run leaf page held) row past
    → cut ≡ record { skip = 0; spans = one_span (range_stretch part) ∷ [] } → bytes ≡ bytes_in (first_of (held_buffers page held)) (range_stretch part) → IsCut leaf page held row past cut bytes
zip_cut leaf page held row past part cut bytes zip is made read = record {
  spans = ap (λ (c : RowCut). c.spans) made ∙ ap (λ (s : Stretch). one_span s ∷ []) is ∙ sym (spans_zip page.layout (cover (held_run leaf page held) row past) zip);
  bytes_are = read ∙ ap (bytes_in (first_of (held_buffers page held))) is;
  skip = ap (λ (c : RowCut). c.skip) made;
}

pub zip_answer : (leaf : PlainLeaf) (page : PageMeta) (held : Option (List ℕ)) (row past : ℕ) (part : Range) (bytes : List ℕ) (result : Result RowCut PageFault) → IsFullZip page.layout → IfHeld leaf page held (range_stretch part ≡ cover (held_run leaf page held) row past)
    → IfOk result (λ cut. cut ≡ record { skip = 0; spans = one_span (range_stretch part) ∷ [] }) → AnswersOf page held (λ _. bytes ≡ bytes_in (first_of (held_buffers page held)) (range_stretch part)) result
    → AnswersOf page held (λ cut. IfHeld leaf page held (IsCut leaf page held row past cut bytes)) result
zip_answer leaf page held row past part bytes (Ok cut) zip is made read = λ slots h. zip_cut leaf page held row past part cut bytes zip (is slots h) made read
zip_answer leaf page held row past part bytes (Err (Outside reason place)) zip is made read = read
zip_answer leaf page held row past part bytes (Err Store) zip is made read = tt
zip_answer leaf page held row past part bytes (Err Memory) zip is made read = tt

short_held : (held : Option (List ℕ)) (content index : Range) → IsSomeAnd held (λ bytes. length bytes < index.at + index.len) → IsSomeAnd held (λ bytes. PassesEnd bytes (content ∷ index ∷ []) index.at)
short_held None content index h = absurd h
short_held (Some bytes) content index h = inr (inl (omega arith, h))

-- the second buffer of two is the page's index
pub index_answer : (page : PageMeta) (held : Option (List ℕ)) (content index : Range) (old new : List ℕ) (result : Result Unit PageFault) → page.buffers ≡ content ∷ index ∷ [] → old ≡ [] → IsPartOf held index.at index.len old new result
    → AnswersOf page held (λ _. IsIndexOf page held new) result
index_answer page held content index old new (Ok u) b none p =
    p.0
    ∙ ap (λ (bs : List ℕ). bs ++ part_held held index) none
    ∙ sym (append-nil (part_held held index))
    ∙ ap (λ (bs : List Range). concat (buffers_in (bytes_held held) (index_ranges bs))) (sym b)
index_answer page held content index old new (Err (Outside Missing place)) b none p = (p.0, subst HasSome (sym b) tt, p.1)
index_answer page held content index old new (Err (Outside Short place)) b none p =
    subst (λ (bs : List Range). IsSomeAnd held (λ bytes. PassesEnd bytes bs place)) (sym b) (subst (λ (n : ℕ). IsSomeAnd held (λ bytes. PassesEnd bytes (content ∷ index ∷ []) n)) (sym p.1) (short_held held content index p.0))
index_answer page held content index old new (Err (Outside (Index f) place)) b none p = absurd p
index_answer page held content index old new (Err (Outside (Content n) place)) b none p = absurd p
index_answer page held content index old new (Err (Outside (ZipReason f) place)) b none p = absurd p
index_answer page held content index old new (Err (Outside Start place)) b none p = absurd p
index_answer page held content index old new (Err (Outside Rows place)) b none p = absurd p
index_answer page held content index old new (Err Store) b none p = tt
index_answer page held content index old new (Err Memory) b none p = tt
