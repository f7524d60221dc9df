-- Joining the slots that the cursors of a field's leaves have at hand.
use Rattle.std.specs.Prelude.{◌≡◌, ◌≢◌, ◌⊎◌, ⊤, ℕ, ◌<◌, List, [], ◌∷◌, length, map, All, Option, Some, slice_get}
use Rattle.lan_model.specs.Plain.{PlainField, PlainValue}
use Rattle.lan_levels.specs.Joins.{IsJoin, JoinCause}
use Rattle.lan_levels.specs.PlainSlots.{plain_slots}
use Rattle.lan_levels.specs.declared.join.Join.{Join}
use Rattle.lan_levels.specs.declared.slot.SlotRun.{SlotRun}
use Rattle.lan_page.specs.ColumnCursors.{Knows, PlainCursor, cursor_leaf, cursor_name, cursor_pages, next_row}
use Rattle.lan_page.specs.Columns.{AreSlotsOfRow, ColumnReasonStands}
use Rattle.lan_store.specs.declared.name.Object.{Object}
use Rattle.lan_store.specs.Objects.{object}
use Rattle.lan_read.specs.FieldReaders.{blamed}
use Rattle.lan_read.specs.declared.field_reader.Unjoined.{Unjoined}
use Rattle.lan_read.specs.declared.field_reader.Unjoined.TheVariants as unjoined
use Rattle.lan_read.specs.declared.read_fault.Reason.TheVariants.{Page}
use Rattle.lan_read.specs.declared.read_fault.ReadFault.{ReadFault}
use Rattle.lan_read.specs.declared.read_fault.ReadFault.TheVariants.{Memory, Outside, Store}

-- what the cursor has in memory is what its object has
abbrev pub KnowsIn : List Object → PlainCursor → Type 0
KnowsIn objects c = Knows c (object objects (cursor_name c))

-- the row of the cursor isn't had
abbrev pub RefusesSeek : List Object → PlainCursor → ReadFault → Type 0
RefusesSeek objects c (Outside name (Page why) place) = (name ≡ cursor_name c) × ColumnReasonStands (cursor_leaf c) (cursor_pages c) (object objects name) why place
RefusesSeek objects c (Store name) = ⊤
RefusesSeek objects c Memory = ⊤
RefusesSeek objects c fault = ⊥

-- nor that of one of the cursors
pub record RefusesOne (objects : List Object) (cursors : List PlainCursor) (fault : ReadFault) : Type 0 where
  pub place : ℕ
  pub cursor : PlainCursor
  pub at : slice_get cursors place ≡ Some cursor
  pub refuses : RefusesSeek objects cursor fault

-- the run has the slots at hand
pub record IsLent (c : PlainCursor) (run : SlotRun) : Type 0 where
  pub leaf : run.leaf ≡ (cursor_leaf c).id
  pub slots : (held : Option (List ℕ)) → Knows c held → AreSlotsOfRow (cursor_leaf c) (cursor_pages c) held (next_row c) (plain_slots run.slots)

-- one run for each cursor, in order
abbrev pub AreLent : List PlainCursor → List SlotRun → Type 0
AreLent [] [] = ⊤
AreLent (c ∷ cursors) (run ∷ runs) = IsLent c run × AreLent cursors runs
AreLent _ _ = ⊥

-- the place of a number among others, or any of theirs where it is none of them
pub record IsPlaceOf (numbers : List ℕ) (number place : ℕ) : Type 0 where
  pub there : place < length numbers
  pub is : (slice_get numbers place ≡ Some number) ⊎ All (λ n. n ≢ number) numbers

-- the slots at hand are those of the value
pub record AreJoined (f : PlainField ℕ) (cursors : List PlainCursor) (v : PlainValue) : Type 0 where
  pub runs : List SlotRun
  pub lent : AreLent cursors runs
  pub joins : IsJoin f runs v

-- they are those of no value, and one of the cursors is to blame
pub record NoneJoined (f : PlainField ℕ) (cursors : List PlainCursor) (error : Join) (place : ℕ) : Type 0 where
  pub runs : List SlotRun
  pub lent : AreLent cursors runs
  pub cause : JoinCause f runs error
  pub id : ℕ
  pub blames : blamed error ≡ Some id
  pub at : IsPlaceOf (map (λ (c : PlainCursor). (cursor_leaf c).id) cursors) id place

abbrev pub IsUnjoined : PlainField ℕ → List PlainCursor → Unjoined → Type 0
IsUnjoined f cursors (unjoined.Slots error place) = NoneJoined f cursors error place
IsUnjoined f cursors unjoined.Memory = ⊤
