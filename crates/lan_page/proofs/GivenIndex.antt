-- The index that is handed over is that of the page.
use Rattle.std.proofs.Common.{◌≡◌, ℕ, ◌≤◌, List, [], ◌∷◌, Option, Some, Err, inl, inr, length, refl, ap, sym, subst, ◌∙◌, arith, append-nil}
use Rattle.std.specs.List.{concat}
use Rattle.lan_model.specs.declared.range.Range.{Range}
use Rattle.lan_model.specs.Leaves.{PlainLeaf}
use Rattle.lan_levels.specs.declared.shape.ValueKind.{ValueKind}
use Rattle.lan_levels.specs.Pieces.{piece}
use Rattle.lan_levels.specs.PlainSlots.{PlainSlot}
use Rattle.lan_levels.specs.Runs.{Runs, run, IsIndex}
use Rattle.lan_levels.specs.Stretch.{size, bytes_in, cover}
use Rattle.lan_levels.specs.ZipRows.{zip_runs}
use Rattle.lan_store.specs.Budget.{Budget, IsWithin, Asks}
use Rattle.lan_store.specs.Telling.{Telling}
use Rattle.lan_index.specs.declared.fault.IndexFault.{IndexFault}
use Rattle.lan_index.specs.Refusals.{OffsetsStand}
use Rattle.lan_meta.specs.declared.page.Layout.{Layout}
use Rattle.lan_meta.specs.declared.page.Layout.TheVariants.{Constant, Mini, Zip}
use Rattle.lan_meta.specs.declared.page.PageMeta.{PageMeta}
use Rattle.lan_meta.specs.PageOf.{page_form, LaidOut, buffers_in}
use Rattle.lan_meta.specs.PageRuns.{runs_by, runs_of}
use Rattle.lan_page.specs.declared.cut.RowCut.{RowCut}
use Rattle.lan_page.specs.declared.fault.PageFault.{PageFault}
use Rattle.lan_page.specs.declared.fault.PageFault.TheVariants.{Outside, Store, Memory}
use Rattle.lan_page.specs.declared.fault.PageReason.TheVariants.{Missing, Short, Index, Content, Zip as ZipReason, Start, Rows}
use Rattle.lan_page.specs.declared.fetching.PiecePart.{PiecePart}
use Rattle.lan_page.specs.Asking.{AnswersOf, FailsIndex, IsIndexOf, IsFullZip, FailsGiven, index_ranges, given_buffers, given_runs, given_run, first_len, content_budget, IsPiecePart, IsPieceOf, piece_budget, part_held, RefusesPiece}
use Rattle.lan_page.specs.Cuts.{one_span}
use Rattle.lan_page.specs.Held.{bytes_held, held_buffers, held_run, HoldsPage, first_of}
use Rattle.lan_page.specs.Places.{range_stretch}
use Rattle.lan_page.proofs.Fetched.{part_size, zip_cut, content_fits}
use Rattle.lan_page.proofs.PageLemmas.{IsZipPage, runs_are, index_is}
use Rattle.lan_page.proofs.SlotLemmas.{some_buffer}

index_alone : (bytes index : List ℕ) (b p : Range) → index ≡ concat (buffers_in bytes (index_ranges (b ∷ p ∷ []))) → index ≡ part_held (Some bytes) p
index_alone bytes index b p i = i ∙ append-nil (part_held (Some bytes) p)

given_by : (leaf : PlainLeaf) (codes : List ℕ) (count : ℕ) (values : ValueKind) (bytes index : List ℕ) (bs : List Range) → length bs ≤ 2 → index ≡ concat (buffers_in bytes (index_ranges bs))
    → runs_by leaf (Zip codes count values) (given_buffers bs index) ≡ runs_by leaf (Zip codes count values) (buffers_in bytes bs)
given_by leaf codes count values bytes index [] few i = refl
given_by leaf codes count values bytes index (b ∷ []) few i = refl
given_by leaf codes count values bytes index (b ∷ p ∷ []) few i = ap (λ (x : List ℕ). zip_runs (page_form leaf codes values) (x ∷ [])) (index_alone bytes index b p i)
given_by leaf codes count values bytes index (b ∷ p ∷ q ∷ bs) few i = absurd (omega arith)

given_layout : (leaf : PlainLeaf) (layout : Layout) (bytes index : List ℕ) (bs : List Range) → IsFullZip layout → length bs ≤ 2 → index ≡ concat (buffers_in bytes (index_ranges bs)) → runs_by leaf layout (given_buffers bs index) ≡ runs_by leaf layout (buffers_in bytes bs)
given_layout leaf (Constant codes count value) bytes index bs zip few i = absurd zip
given_layout leaf (Mini codes count values) bytes index bs zip few i = absurd zip
given_layout leaf (Zip codes count values) bytes index bs zip few i = given_by leaf codes count values bytes index bs few i

pub given_are : (leaf : PlainLeaf) (page : PageMeta) (held : Option (List ℕ)) (index : List ℕ) → IsFullZip page.layout → length page.buffers ≤ 2 → IsIndexOf page held index → given_runs leaf page index ≡ runs_of leaf page (held_buffers page held)
given_are leaf page held index zip few i = given_layout leaf page.layout (bytes_held held) index page.buffers zip few i

index_by : (leaf : PlainLeaf) (page : PageMeta) (held : Option (List ℕ)) (slots : List PlainSlot) (layout : Layout) → page.layout ≡ layout → IsFullZip layout → HoldsPage leaf page held slots → IsIndex (runs_of leaf page (held_buffers page held)) page.rows (first_len page.buffers)
index_by leaf page held slots (Constant codes count value) e zip h = absurd zip
index_by leaf page held slots (Mini codes count values) e zip h = absurd zip
index_by leaf page held slots (Zip codes count values) e zip h =
    let laid = subst (λ (l : Layout). LaidOut leaf page.rows l (held_buffers page held) slots) e h.stands.laid in
    let some = some_buffer (page_form leaf codes values) page.rows (bytes_held held) slots page.buffers laid in
    let z : IsZipPage page codes count values some.0 some.1 = record { layout = e; buffers = some.2 } in
    let is = index_is leaf page held codes count values some.0 some.1 z slots h in
    subst (IsIndex (runs_of leaf page (held_buffers page held)) page.rows) (sym (ap first_len some.2))
    (subst (λ (r : Runs). IsIndex r page.rows some.0.len) (sym (runs_are leaf page held codes count values some.0 some.1 z)) is)

pub index_given : (leaf : PlainLeaf) (page : PageMeta) (held : Option (List ℕ)) (index : List ℕ) (slots : List PlainSlot) → IsFullZip page.layout → length page.buffers ≤ 2 → IsIndexOf page held index → HoldsPage leaf page held slots
    → IsIndex (given_runs leaf page index) page.rows (first_len page.buffers)
index_given leaf page held index slots zip few i h =
    subst (λ (r : Runs). IsIndex r page.rows (first_len page.buffers)) (sym (given_are leaf page held index zip few i)) (index_by leaf page held slots page.layout refl zip h)

pub held_part : (leaf : PlainLeaf) (page : PageMeta) (held : Option (List ℕ)) (index : List ℕ) (row : ℕ) (p : PiecePart) → IsFullZip page.layout → length page.buffers ≤ 2 → IsIndexOf page held index → IsPiecePart (given_run leaf page index) page.rows row p
    → IsPiecePart (held_run leaf page held) page.rows row p
held_part leaf page held index row p zip few i is = subst (λ (r : Runs). IsPiecePart (run r) page.rows row p) (given_are leaf page held index zip few i) is

-- the piece that was fetched
pub piece_is : (leaf : PlainLeaf) (page : PageMeta) (held : Option (List ℕ)) (row : ℕ) (p : PiecePart) (cut : RowCut) (bytes : List ℕ) → IsFullZip page.layout → IsPiecePart (held_run leaf page held) page.rows row p → cut ≡ record { skip = 0; spans = one_span (range_stretch p.part) ∷ [] }
    → bytes ≡ bytes_in (first_of (held_buffers page held)) (range_stretch p.part) → IsPieceOf leaf page held row (record { row = row; past = p.past; cut = cut }) bytes
piece_is leaf page held row p cut bytes zip is made read = record { row_is = refl; past_is = is.0; cut = zip_cut leaf page held row p.past p.part cut bytes zip is.1 made read }

pub piece_asks : {s t : Telling} (leaf : PlainLeaf) (page : PageMeta) (held : Option (List ℕ)) (row : ℕ) (p : PiecePart) → IsPiecePart (held_run leaf page held) page.rows row p → Asks (content_budget page.buffers p.part.len) s t → Asks (piece_budget leaf page held row) s t
piece_asks {s} {t} leaf page held row p is asks =
    let r = held_run leaf page held in
    let e : p.part.len ≡ size (piece r page.rows row) = part_size p.part (cover r row p.past) is.1 ∙ ap (λ (q : ℕ). size (cover r row q)) is.0 in
    subst (λ (n : ℕ). Asks (content_budget page.buffers n) s t) e asks

pub asks_none : (b : Budget) (s : Telling) → Asks b s s
asks_none b s = record { ranges = record { later = omega arith; within = omega arith }; bytes = record { later = omega arith; within = omega arith } }

pub within_content : (bs : List Range) (a b : ℕ) → a ≤ b → IsWithin (content_budget bs a) (content_budget bs b)
within_content [] a b le = record { ranges = omega arith; bytes = omega arith }
within_content (c ∷ bs) a b le = record { ranges = omega arith; bytes = le }

-- places that are handed over and are none are none of the page
fails_by : (rows : ℕ) (bytes index : List ℕ) (bs : List Range) (f : IndexFault) (at : ℕ) → length bs ≤ 2 → index ≡ concat (buffers_in bytes (index_ranges bs)) → FailsGiven rows bs index (Outside (Index f) at) → FailsIndex rows bs (buffers_in bytes bs) f at
fails_by rows bytes index [] f at few i h = absurd h
fails_by rows bytes index (b ∷ []) f at few i h = absurd h
fails_by rows bytes index (b ∷ p ∷ []) f at few i h = (subst (λ (x : List ℕ). OffsetsStand rows b.len x f) (index_alone bytes index b p i) h.0, h.1)
fails_by rows bytes index (b ∷ p ∷ q ∷ bs) f at few i h = absurd (omega arith)

only_index : (rows : ℕ) (index : List ℕ) (bs : List Range) (fault : PageFault) → FailsGiven rows bs index fault → (f : IndexFault) × (at : ℕ) × (fault ≡ Outside (Index f) at)
only_index rows index [] fault h = absurd h
only_index rows index (b ∷ []) (Outside reason at) h = absurd h
only_index rows index (b ∷ []) Store h = absurd h
only_index rows index (b ∷ []) Memory h = absurd h
only_index rows index (b ∷ p ∷ bs) (Outside Missing at) h = absurd h
only_index rows index (b ∷ p ∷ bs) (Outside Short at) h = absurd h
only_index rows index (b ∷ p ∷ bs) (Outside (Index f) at) h = (f, at, refl)
only_index rows index (b ∷ p ∷ bs) (Outside (Content n) at) h = absurd h
only_index rows index (b ∷ p ∷ bs) (Outside (ZipReason f) at) h = absurd h
only_index rows index (b ∷ p ∷ bs) (Outside Start at) h = absurd h
only_index rows index (b ∷ p ∷ bs) (Outside Rows at) h = absurd h
only_index rows index (b ∷ p ∷ bs) Store h = absurd h
only_index rows index (b ∷ p ∷ bs) Memory h = absurd h

pub fails_held : {A : Type 0} (Holds : A → Type 0) (page : PageMeta) (held : Option (List ℕ)) (index : List ℕ) (fault : PageFault) → length page.buffers ≤ 2 → IsIndexOf page held index → FailsGiven page.rows page.buffers index fault → AnswersOf page held Holds (Err fault)
fails_held {A} Holds page held index fault few i h =
    let o = only_index page.rows index page.buffers fault h in
    let there = subst (FailsGiven page.rows page.buffers index) o.2 h in
    subst (λ (e : PageFault). AnswersOf page held Holds (Err e)) (sym o.2) (fails_by page.rows (bytes_held held) index page.buffers o.0 o.1 few i there)

pub refuses_given : (page : PageMeta) (held : Option (List ℕ)) (index : List ℕ) (fault : PageFault) → FailsGiven page.rows page.buffers index fault → RefusesPiece page held index fault
refuses_given page held index fault h =
    let o = only_index page.rows index page.buffers fault h in
    subst (RefusesPiece page held index) (sym o.2) (inr (subst (FailsGiven page.rows page.buffers index) o.2 h))

pub refuses_held : {A : Type 0} (Holds : A → Type 0) (page : PageMeta) (held : Option (List ℕ)) (index : List ℕ) (fault : PageFault) → AnswersOf page held Holds (Err fault) → RefusesPiece page held index fault
refuses_held {A} Holds page held index (Outside reason place) h = inl h
refuses_held {A} Holds page held index Store h = tt
refuses_held {A} Holds page held index Memory h = tt

-- the bytes of the piece, also where the page isn't held
pub piece_bytes : (leaf : PlainLeaf) (page : PageMeta) (held : Option (List ℕ)) (index : List ℕ) (row : ℕ) (p : PiecePart) (bytes : List ℕ) → IsFullZip page.layout → length page.buffers ≤ 2 → IsIndexOf page held index
    → ((all : List ℕ) → length all ≤ first_len page.buffers → bytes_in all (range_stretch p.part) ≡ bytes_in all (cover (given_run leaf page index) row p.past)) → bytes ≡ bytes_in (first_of (held_buffers page held)) (range_stretch p.part)
    → bytes ≡ bytes_in (first_of (held_buffers page held)) (cover (held_run leaf page held) row p.past)
piece_bytes leaf page held index row p bytes zip few i same read =
    let all = first_of (held_buffers page held) in
    read ∙ same all (content_fits page held) ∙ ap (λ (r : Runs). bytes_in all (cover (run r) row p.past)) (given_are leaf page held index zip few i)
