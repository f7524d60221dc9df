-- What is asked of a store for a page, and what is said of the object.
use Rattle.std.specs.Prelude.{◌≡◌, ℕ, ◌+◌, ◌<◌, ◌≤◌, ◌⊎◌, ⊤, List, [], ◌∷◌, ◌++◌, length, take, drop, IsSomeAnd, Option, Some, None, Result, Ok, Err}
use Rattle.std.specs.List.{concat}
use Rattle.lan_model.specs.declared.range.Range.{Range}
use Rattle.lan_model.specs.Leaves.{PlainLeaf}
use Rattle.lan_levels.specs.PlainSlots.{PlainSlot}
use Rattle.lan_levels.specs.Past.{past, longest}
use Rattle.lan_levels.specs.Offsets.{AreOffsets}
use Rattle.lan_levels.specs.Pieces.{piece}
use Rattle.lan_levels.specs.Runs.{Runs, placed, run}
use Rattle.lan_levels.specs.Stretch.{Stretch, size, cover}
use Rattle.lan_store.specs.declared.name.Name.{Name}
use Rattle.lan_store.specs.Budget.{Budget, nothing, range, plus}
use Rattle.lan_index.specs.declared.fault.IndexFault.{IndexFault}
use Rattle.lan_index.specs.Refusals.{OffsetsStand}
use Rattle.lan_meta.specs.declared.page.Layout.{Layout}
use Rattle.lan_meta.specs.declared.page.Layout.TheVariants.{Zip}
use Rattle.lan_meta.specs.declared.page.PageMeta.{PageMeta}
use Rattle.lan_meta.specs.PageOf.{buffers_in}
use Rattle.lan_meta.specs.PageRuns.{runs_of}
use Rattle.lan_page.specs.declared.cut.PieceCut.{PieceCut}
use Rattle.lan_page.specs.declared.fetching.PiecePart.{PiecePart}
use Rattle.lan_page.specs.declared.fault.PageFault.{PageFault}
use Rattle.lan_page.specs.declared.fault.PageFault.TheVariants.{Outside, Store, Memory}
use Rattle.lan_page.specs.declared.fault.PageReason.{PageReason}
use Rattle.lan_page.specs.declared.fault.PageReason.TheVariants.{Missing, Short, Index}
use Rattle.lan_page.specs.Cuts.{IsCut}
use Rattle.lan_page.specs.Held.{bytes_held, held_buffers, held_run, HoldsPage}
use Rattle.lan_page.specs.Places.{range_stretch}

-- ---- failures

abbrev pub fault_failure : Name → PageFault → Option Name
fault_failure name Store = Some name
fault_failure name fault = None

-- the name at which the store failed, by what was answered of the object of this name
abbrev pub page_failure : {A : Type 0} → Name → Result A PageFault → Option Name
page_failure name (Ok answer) = None
page_failure name (Err fault) = fault_failure name fault

-- ---- reasons

-- one of the buffers begins no later than the place, and passes the end of the bytes
abbrev pub PassesEnd : List ℕ → List Range → ℕ → Type 0
PassesEnd bytes [] place = ⊥
PassesEnd bytes (b ∷ buffers) place = ((b.at ≤ place) × (length bytes < b.at + b.len)) ⊎ PassesEnd bytes buffers place

abbrev pub HasSome : List Range → Type 0
HasSome [] = ⊥
HasSome (b ∷ buffers) = ⊤

-- the bytes of the second buffer are no places of the rows in the first
abbrev pub FailsIndex : ℕ → List Range → List (List ℕ) → IndexFault → ℕ → Type 0
FailsIndex rows (content ∷ index ∷ more) (first ∷ places ∷ others) fault place = OffsetsStand rows content.len places fault × (place ≡ index.at)
FailsIndex rows buffers bytes fault place = ⊥

-- why the object that is held has no such page, and where
abbrev pub ReasonStands : PageMeta → Option (List ℕ) → PageReason → ℕ → Type 0
ReasonStands page held Missing place = (held ≡ None) × HasSome page.buffers × (place ≡ 0)
ReasonStands page held Short place = IsSomeAnd held (λ bytes. PassesEnd bytes page.buffers place)
ReasonStands page held (Index fault) place = FailsIndex page.rows page.buffers (held_buffers page held) fault place
ReasonStands page held reason place = ⊥

-- the answer's fact holds, or the fault's reason stands in the object
abbrev pub AnswersOf : {A : Type 0} → PageMeta → Option (List ℕ) → (A → Type 0) → Result A PageFault → Type 0
AnswersOf page held Holds (Ok answer) = Holds answer
AnswersOf page held Holds (Err (Outside reason place)) = ReasonStands page held reason place
AnswersOf page held Holds (Err Store) = ⊤
AnswersOf page held Holds (Err Memory) = ⊤

-- where the page is held, and by which slots
abbrev pub IfHeld : PlainLeaf → PageMeta → Option (List ℕ) → Type 0 → Type 0
IfHeld leaf page held Fact = (slots : List PlainSlot) → HoldsPage leaf page held slots → Fact

-- ---- parts of an object

-- the part was appended, or the object lacks it
abbrev pub IsPartOf : Option (List ℕ) → ℕ → ℕ → List ℕ → List ℕ → Result Unit PageFault → Type 0
IsPartOf held at len old new (Ok answer) = (new ≡ old ++ take len (drop at (bytes_held held))) × (0 < len → at + len ≤ length (bytes_held held))
IsPartOf held at len old new (Err (Outside Missing place)) = (held ≡ None) × (place ≡ 0)
IsPartOf held at len old new (Err (Outside Short place)) = IsSomeAnd held (λ bytes. length bytes < at + len) × (place ≡ at)
IsPartOf held at len old new (Err (Outside reason place)) = ⊥
IsPartOf held at len old new (Err Store) = ⊤
IsPartOf held at len old new (Err Memory) = ⊤

-- ---- what is asked

-- the buffers that say where rows lie
abbrev pub index_ranges : List Range → List Range
index_ranges [] = []
index_ranges (content ∷ more) = more

-- a range each
abbrev pub ranges_budget : List Range → Budget
ranges_budget [] = nothing
ranges_budget (b ∷ buffers) = plus (range b.len) (ranges_budget buffers)

abbrev pub index_budget : PageMeta → Budget
index_budget page = ranges_budget (index_ranges page.buffers)

-- the content that is read of a page in one range, if it has any
abbrev pub content_budget : List Range → ℕ → Budget
content_budget [] bytes = nothing
content_budget (content ∷ more) bytes = range bytes

-- to know where a row lies: its two places where rows may differ in length, and all of them where these two can't be right
abbrev pub near_budget : List Range → Budget
near_budget (content ∷ index ∷ more) = range 16
near_budget buffers = nothing

abbrev pub near_most : List Range → Budget
near_most (content ∷ index ∷ more) = plus (range 16) (range index.len)
near_most buffers = nothing

abbrev pub first_len : List Range → ℕ
first_len [] = 0
first_len (content ∷ more) = content.len

-- for a row of any page, in at most three ranges
abbrev pub row_most : PageMeta → Budget
row_most page = plus (near_most page.buffers) (content_budget page.buffers (first_len page.buffers))

-- for a row of a page that is held, in at most two
abbrev pub row_budget : PlainLeaf → PageMeta → Option (List ℕ) → ℕ → Budget
row_budget leaf page held row = plus (near_budget page.buffers) (content_budget page.buffers (size (held_run leaf page held row)))

abbrev pub IsFullZip : Layout → Type 0
IsFullZip (Zip codes slots values) = ⊤
IsFullZip layout = ⊥

-- the bytes of a page's index are these
abbrev pub IsIndexOf : PageMeta → Option (List ℕ) → List ℕ → Type 0
IsIndexOf page held index = index ≡ concat (buffers_in (bytes_held held) (index_ranges page.buffers))

-- the piece that begins at a row, and its bytes
pub record IsPieceOf (leaf : PlainLeaf) (page : PageMeta) (held : Option (List ℕ)) (row : ℕ) (piece : PieceCut) (bytes : List ℕ) : Type 0 where
  pub row_is : piece.row ≡ row
  pub past_is : piece.past ≡ past (held_run leaf page held) page.rows row
  pub cut : IsCut leaf page held row piece.past piece.cut bytes

-- the buffers' bytes, of which the content isn't looked at
abbrev pub given_more : List Range → List ℕ → List (List ℕ)
given_more [] index = []
given_more (place ∷ more) index = index ∷ []

abbrev pub given_buffers : List Range → List ℕ → List (List ℕ)
given_buffers [] index = []
given_buffers (content ∷ more) index = [] ∷ given_more more index

-- where rows lie by an index that is handed over
abbrev pub given_runs : PlainLeaf → PageMeta → List ℕ → Runs
given_runs leaf page index = runs_of leaf page (given_buffers page.buffers index)

abbrev pub given_run : PlainLeaf → PageMeta → List ℕ → ℕ → Stretch
given_run leaf page index = run (given_runs leaf page index)

-- where a piece ends by these runs, and its part of the content
abbrev pub IsPiecePart : (ℕ → Stretch) → ℕ → ℕ → PiecePart → Type 0
IsPiecePart r rows row piece = (piece.past ≡ past r rows row) × (range_stretch piece.part ≡ cover r row piece.past)

-- for a piece by an index that is handed over: one range, of at most 2^20 bytes unless one row has more
abbrev pub piece_most : PlainLeaf → PageMeta → List ℕ → ℕ → Budget
piece_most leaf page index row = content_budget page.buffers (longest (given_run leaf page index) row)

-- of a page that is held: just the piece
abbrev pub piece_budget : PlainLeaf → PageMeta → Option (List ℕ) → ℕ → Budget
piece_budget leaf page held row = content_budget page.buffers (size (piece (held_run leaf page held) page.rows row))

-- ---- where a row lies

-- the bytes of a buffer
abbrev pub part_held : Option (List ℕ) → Range → List ℕ
part_held held b = take b.len (drop b.at (bytes_held held))

-- where a row's two places say that it lies; none where they can't be right
abbrev pub IsNear : ℕ → ℕ → List ℕ → ℕ → Option Range → Type 0
IsNear rows content places row (Some part) = range_stretch part ≡ run (placed places) row
IsNear rows content places row None = AreOffsets rows content places → ⊥

-- the bytes that are handed over are no places of so many rows in so many bytes of content
abbrev pub GivenFails : ℕ → ℕ → List Range → List ℕ → PageFault → Type 0
GivenFails rows content (place ∷ more) index (Outside (Index fault) at) = OffsetsStand rows content index fault × (at ≡ place.at)
GivenFails rows content more index fault = ⊥

abbrev pub FailsGiven : ℕ → List Range → List ℕ → PageFault → Type 0
FailsGiven rows [] index fault = ⊥
FailsGiven rows (content ∷ more) index fault = GivenFails rows content.len more index fault

-- why a piece isn't had by an index that is handed over: by what the object has, or by that index
abbrev pub RefusesPiece : PageMeta → Option (List ℕ) → List ℕ → PageFault → Type 0
RefusesPiece page held index (Outside reason place) = ReasonStands page held reason place ⊎ FailsGiven page.rows page.buffers index (Outside reason place)
RefusesPiece page held index Store = ⊤
RefusesPiece page held index Memory = ⊤
