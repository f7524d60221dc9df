-- From what the cursors of a field's leaves have at hand to the value of the row, or to why there is none.
use Rattle.std.proofs.Common.{◌≡◌, inl, inr, sym, ◌∙◌, ap, refl, subst, Bool, ℕ, zero, suc, ◌+◌, ◌<◌, ◌≤◌, List, [], ◌∷◌, ◌++◌, length, get_or, map, arith}
use Rattle.std.specs.Prelude.{All, Contains, OnOk, Option, Some, None, Result, Ok, Err, option_map, slice_get, ◌⊎◌}
use Rattle.std.proofs.lemmas.List.{get_or-map, length-append, length-map}
use Rattle.std.proofs.lemmas.List.Elements.{All-cons, All-head, All-nil, All-tail}
use Rattle.std.proofs.lemmas.Option.{get_or_from_slice_get, same_Some, slice_get-map, slice_get_within}
use Rattle.lan_model.specs.Leaves.{PlainLeaf, leaves_of, leaves_of_members}
use Rattle.lan_model.specs.Plain.{primitive, vector, text, bytes, list, struct, PlainField, field, PlainFields, no_fields, one_field, PlainValue, null}
use Rattle.lan_model.specs.Table.{AreFields, IsField, names_of}
use Rattle.lan_model.specs.declared.tree.Layer.{Layer}
use Rattle.lan_model.specs.declared.tree.Layer.TheVariants as layer
use Rattle.lan_levels.specs.PlainSlots.{PlainSlot, plain_slots}
use Rattle.lan_levels.specs.declared.join.Join.{Join}
use Rattle.lan_levels.specs.declared.slot.SlotRun.{SlotRun}
use Rattle.lan_page.specs.ColumnCursors.{IsAt, PlainCursor, cursor_leaf, cursor_name, cursor_pages, seek_most}
use Rattle.lan_page.specs.Columns.{AreSlotsOfRow, ColumnReasonStands, HoldsPages, rows_of}
use Rattle.lan_page.specs.declared.fault.PageReason.{PageReason}
use Rattle.lan_store.specs.Budget.{IsWithin, plus}
use Rattle.lan_store.specs.declared.name.Name.{Name}
use Rattle.lan_store.specs.declared.name.Object.{Object}
use Rattle.lan_store.specs.Objects.{object}
use Rattle.lan_manifest.specs.declared.manifest.DataFile.{DataFile}
use Rattle.lan_read.specs.FieldReaders.{AreRunsOfRow, CanRead, GiveLeaves, GivesLeaf, HoldsIn, IsValueOf, MayAsk, ReadColumn, ReadsField, RefusesValue, blamed, column_read, columns_read, cursors_most}
use Rattle.lan_read.specs.Given.{NoneGiven}
use Rattle.lan_read.specs.Joining.{AreJoined, AreLent, IsLent, IsPlaceOf, KnowsIn, NoneJoined, RefusesOne, RefusesSeek}
use Rattle.lan_read.specs.declared.read_fault.Reason.TheVariants as reason
use Rattle.lan_read.specs.declared.read_fault.ReadFault.{ReadFault}
use Rattle.lan_read.specs.declared.read_fault.ReadFault.TheVariants.{Memory, Outside, Store}
use Rattle.lan_read.proofs.JoinedRows.{value_of_row}
use Rattle.lan_read.proofs.RowLists.{column_long}
use Rattle.lan_read.proofs.RowRuns.{joined_is_row}

abbrev pub leaf_id : PlainCursor → ℕ
leaf_id c = (cursor_leaf c).id

abbrev pub run_id : SlotRun → ℕ
run_id run = run.leaf

abbrev pub id_of : PlainLeaf → ℕ
id_of leaf = leaf.id

-- ---- runs

-- the runs that are lent are those of the row
pub runs_read : (objects : List Object) (files : List DataFile) (count row : ℕ) (leaves : List PlainLeaf) (cursors : List PlainCursor) (runs : List SlotRun) → GiveLeaves objects files count leaves (columns_read cursors) → All (λ c. IsAt c row) cursors → All (KnowsIn objects) cursors
    → AreLent cursors runs → AreRunsOfRow objects files count row leaves runs
runs_read objects files count row [] [] [] gives at knows lent = tt
runs_read objects files count row [] [] (run ∷ runs) gives at knows lent = absurd lent
runs_read objects files count row [] (c ∷ cursors) runs gives at knows lent = absurd gives
runs_read objects files count row (leaf ∷ leaves) [] runs gives at knows lent = absurd gives
runs_read objects files count row (leaf ∷ leaves) (c ∷ cursors) [] gives at knows lent = absurd lent
runs_read objects files count row (leaf ∷ leaves) (c ∷ cursors) (run ∷ runs) gives at knows lent =
    let here = All-head (λ (c : PlainCursor). IsAt c row) c cursors at in
    let held : Option (List ℕ) = object objects (cursor_name c) in
    let Slots : ℕ → Type 0 = λ n. AreSlotsOfRow (cursor_leaf c) (cursor_pages c) held n (plain_slots run.slots) in (
      record { column = column_read c; gives = gives.0; slots = subst Slots here.1 (lent.0.slots held (All-head (KnowsIn objects) c cursors knows)) },
      runs_read objects files count row leaves cursors runs gives.1 (All-tail (λ (c : PlainCursor). IsAt c row) c cursors at) (All-tail (KnowsIn objects) c cursors knows) lent.1,
    )

pub lent_ids : (cursors : List PlainCursor) (runs : List SlotRun) → AreLent cursors runs → map run_id runs ≡ map leaf_id cursors
lent_ids [] [] lent = refl
lent_ids [] (run ∷ runs) lent = absurd lent
lent_ids (c ∷ cursors) [] lent = absurd lent
lent_ids (c ∷ cursors) (run ∷ runs) lent =
    let here : run.leaf ≡ leaf_id c = lent.0.leaf in
    let later = lent_ids cursors runs lent.1 in
    λ i. here i ∷ later i

-- one run more
pub lent_more : (cursors : List PlainCursor) (runs : List SlotRun) (c : PlainCursor) (run : SlotRun) → AreLent cursors runs → IsLent c run → AreLent (cursors ++ c ∷ []) (runs ++ run ∷ [])
lent_more [] [] c run lent here = (here, tt)
lent_more [] (r ∷ runs) c run lent here = absurd lent
lent_more (d ∷ cursors) [] c run lent here = absurd lent
lent_more (d ∷ cursors) (r ∷ runs) c run lent here = (lent.0, lent_more cursors runs c run lent.1 here)

mutual
  -- a field has a leaf
  pub some_leaves : (f : PlainField ℕ) (top : ℕ) (outer : List Layer) → IsField f → 0 < length (leaves_of f top outer)
  some_leaves (field id name nullable (primitive p)) top outer is = omega arith
  some_leaves (field id name nullable (vector p n)) top outer is = omega arith
  some_leaves (field id name nullable text) top outer is = omega arith
  some_leaves (field id name nullable bytes) top outer is = omega arith
  some_leaves (field id name nullable (list item)) top outer is = some_leaves item top (layer.List nullable ∷ outer) is
  some_leaves (field id name nullable (struct members)) top outer is = some_in_members members nullable 0 top outer is.0.0 is.1

  some_in_members : (fs : PlainFields ℕ) (n : Bool) (m top : ℕ) (outer : List Layer) → 0 < length (names_of fs) → AreFields fs → 0 < length (leaves_of_members fs n m top outer)
  some_in_members no_fields n m top outer some are = absurd (omega (arith, some))
  some_in_members (one_field f fs) n m top outer some are =
      omega (arith, some_leaves f top (layer.Struct n m ∷ outer) are.0, length-append (leaves_of f top (layer.Struct n m ∷ outer)) (leaves_of_members fs n (m + 1) top outer))

-- ---- the columns stay

ids_read : (cursors : List PlainCursor) → map leaf_id cursors ≡ map (λ (column : ReadColumn). column.leaf.id) (columns_read cursors)
ids_read [] = refl
ids_read (c ∷ cursors) = ap (λ (l : List ℕ). leaf_id c ∷ l) (ids_read cursors)

pub same_ids : (old new : List PlainCursor) → columns_read new ≡ columns_read old → map leaf_id new ≡ map leaf_id old
same_ids old new same = ids_read new ∙ ap (map (λ (column : ReadColumn). column.leaf.id)) same ∙ sym (ids_read old)

-- a later row may be asked
pub may_later : (row later : ℕ) (old new : List PlainCursor) → columns_read new ≡ columns_read old → row ≤ later → All (λ c. IsAt c row) new → All (MayAsk later) old → All (MayAsk later) new
may_later row later [] [] same le at may = All-nil (MayAsk later)
may_later row later [] (c ∷ new) same le at may = absurd (cc same)
may_later row later (d ∷ old) [] same le at may = absurd (cc same)
may_later row later (d ∷ old) (c ∷ new) same le at may =
    let first : column_read c ≡ column_read d = cc same in
    let rest : columns_read new ≡ columns_read old = cc same in
    let here = All-head (λ (c : PlainCursor). IsAt c row) c new at in
    let there = All-head (MayAsk later) d old may in
    let many : rows_of (cursor_pages c) ≡ rows_of (cursor_pages d) = ap (λ (column : ReadColumn). rows_of column.pages) first in
    All-cons (MayAsk later) c new (record { order = omega (arith, here.1, le); there = omega (arith, there.there, many) })
    (may_later row later old new rest le (All-tail (λ (c : PlainCursor). IsAt c row) c new at) (All-tail (MayAsk later) d old may))

pub can_later : (f : PlainField ℕ) (row later : ℕ) (old new : List PlainCursor) → columns_read new ≡ columns_read old → row ≤ later → All (λ c. IsAt c row) new → CanRead f later (Some old) → CanRead f later (Some new)
can_later f row later old new same le at can = (same_ids old new same ∙ can.0, may_later row later old new same le at can.1)

-- columns that are held still are
pub holds_later : (objects : List Object) (old new : List PlainCursor) → columns_read new ≡ columns_read old → All (HoldsIn objects) old → All (HoldsIn objects) new
holds_later objects [] [] same holds = All-nil (HoldsIn objects)
holds_later objects [] (c ∷ new) same holds = absurd (cc same)
holds_later objects (d ∷ old) [] same holds = absurd (cc same)
holds_later objects (d ∷ old) (c ∷ new) same holds =
    let first : column_read c ≡ column_read d = cc same in
    let rest : columns_read new ≡ columns_read old = cc same in
    let Holds : ReadColumn → Type 0 = λ column. (slots : List PlainSlot) × HoldsPages column.leaf column.pages (object objects column.name) slots in
    All-cons (HoldsIn objects) c new (subst Holds (sym first) (All-head (HoldsIn objects) d old holds)) (holds_later objects old new rest (All-tail (HoldsIn objects) d old holds))

-- ---- what is asked

pub most_more : (row : ℕ) (cursors : List PlainCursor) (c : PlainCursor) → IsWithin (plus (cursors_most cursors row) (seek_most c row)) (cursors_most (cursors ++ c ∷ []) row)
most_more row [] c = record { ranges = omega arith; bytes = omega arith }
most_more row (d ∷ cursors) c =
    let later = most_more row cursors c in
    let ranges = later.ranges in
    let bytes = later.bytes in
    record { ranges = omega arith; bytes = omega arith }

pub most_front : (row : ℕ) (cursors more : List PlainCursor) → IsWithin (cursors_most cursors row) (cursors_most (cursors ++ more) row)
most_front row [] more = record { ranges = omega arith; bytes = omega arith }
most_front row (c ∷ cursors) more =
    let later = most_front row cursors more in
    let ranges = later.ranges in
    let bytes = later.bytes in
    record { ranges = omega arith; bytes = omega arith }

-- ---- answers

-- the leaf of the column at a place
record LeafAt (objects : List Object) (files : List DataFile) (count place : ℕ) (leaves : List PlainLeaf) (column : ReadColumn) : Type 0 where
  leaf : PlainLeaf
  there : slice_get leaves place ≡ Some leaf
  gives : GivesLeaf objects files count leaf column

leaf_at : (objects : List Object) (files : List DataFile) (count place : ℕ) (leaves : List PlainLeaf) (cursors : List PlainCursor) (c : PlainCursor) → GiveLeaves objects files count leaves (columns_read cursors) → slice_get cursors place ≡ Some c
    → LeafAt objects files count place leaves (column_read c)
leaf_at objects files count place [] [] c gives at = absurd (cc at)
leaf_at objects files count place [] (d ∷ cursors) c gives at = absurd gives
leaf_at objects files count place (leaf ∷ leaves) [] c gives at = absurd gives
leaf_at objects files count zero (leaf ∷ leaves) (d ∷ cursors) c gives at =
    let same : d ≡ c = same_Some d c at in
    record { leaf = leaf; there = refl; gives = subst (λ (x : PlainCursor). GivesLeaf objects files count leaf (column_read x)) same gives.0 }
leaf_at objects files count (suc place) (leaf ∷ leaves) (d ∷ cursors) c gives at =
    let found = leaf_at objects files count place leaves cursors c gives.1 at in
    record { leaf = found.leaf; there = found.there; gives = found.gives }

contained : {X : Type 0} (xs : List X) (place : ℕ) (x : X) → slice_get xs place ≡ Some x → Contains xs x
contained xs place x at = (place, slice_get_within xs place x at, get_or_from_slice_get xs place x x at)

refused_leaf : (objects : List Object) (files : List DataFile) (count row : ℕ) (f : PlainField ℕ) (leaf : PlainLeaf) (c : PlainCursor) (fault : ReadFault) → Contains (leaves_of f 0 []) leaf → GivesLeaf objects files count leaf (column_read c) → RefusesSeek objects c fault
    → RefusesValue objects files count f row fault
refused_leaf objects files count row f leaf c (Outside name (reason.Page why) place) one gives refuses = record { leaf = leaf; is_one = one; column = column_read c; gives = gives; named = refuses.0; stands = refuses.1 }
refused_leaf objects files count row f leaf c (Store name) one gives refuses = tt
refused_leaf objects files count row f leaf c Memory one gives refuses = tt
refused_leaf objects files count row f leaf c fault one gives refuses = absurd refuses

-- why a cursor's row isn't had is why the value isn't
pub refused_one : (objects : List Object) (files : List DataFile) (count row : ℕ) (f : PlainField ℕ) (cursors : List PlainCursor) (fault : ReadFault) → ReadsField objects files count f (Some cursors) → RefusesOne objects cursors fault → RefusesValue objects files count f row fault
refused_one objects files count row f cursors fault reads refuses =
    let found = leaf_at objects files count refuses.place (leaves_of f 0 []) cursors refuses.cursor reads refuses.at in
    refused_leaf objects files count row f found.leaf refuses.cursor fault (contained (leaves_of f 0 []) refuses.place found.leaf found.there) found.gives refuses.refuses

-- slots that are joined are the row's
pub value_read : (objects : List Object) (files : List DataFile) (count row : ℕ) (f : PlainField ℕ) (cursors : List PlainCursor) (v : PlainValue) → IsField f → row < count → ReadsField objects files count f (Some cursors) → All (λ c. IsAt c row) cursors → All (KnowsIn objects) cursors
    → AreJoined f cursors v → IsValueOf objects files count f row v
value_read objects files count row f cursors v is below reads at knows joined fields rows top physical there =
    joined_is_row objects fields files count rows top row f joined.runs v is physical there below
    (runs_read objects files count row (leaves_of f 0 []) cursors joined.runs reads at knows joined.lent) joined.joins

blamed_leaf : (leaves : List PlainLeaf) (cursors : List PlainCursor) (error : Join) (id place : ℕ) (leaf : PlainLeaf) → map leaf_id cursors ≡ map id_of leaves → blamed error ≡ Some id → slice_get leaves place ≡ Some leaf → IsPlaceOf (map leaf_id cursors) id place
    → (blamed error ≡ Some leaf.id) ⊎ All (λ l. blamed error ≡ Some l.id → ⊥) leaves
blamed_leaf leaves cursors error id place leaf ids blames there at = elim at.is [
  | inl is ↦
      let named : slice_get (map id_of leaves) place ≡ Some leaf.id = slice_get-map id_of leaves place ∙ ap (option_map id_of) there in
      inl (blames ∙ sym is ∙ ap (λ (l : List ℕ). slice_get l place) ids ∙ named)
  | inr none ↦ inr (λ k d within same.
      let inside : k < length (map id_of leaves) = omega (arith, within, length-map leaves id_of) in
      let as_many : length (map leaf_id cursors) ≡ length (map id_of leaves) = ap (length {A = ℕ}) ids in
      let other : get_or (map leaf_id cursors) k (id_of d) ≡ get_or (map id_of leaves) k (id_of d) = ap (λ (l : List ℕ). get_or l k (id_of d)) ids in
      let same_id : (get_or leaves k d).id ≡ id = same_Some _ _ (sym same ∙ blames) in
      none k (id_of d) (omega (arith, inside, as_many)) (other ∙ get_or-map id_of leaves k d (id_of d) within ∙ same_id))
]

-- and slots that aren't, are those of no value
pub none_read : (objects : List Object) (files : List DataFile) (count row : ℕ) (f : PlainField ℕ) (cursors : List PlainCursor) (error : Join) (place : ℕ) (c : PlainCursor) (name : Name) → row < count → ReadsField objects files count f (Some cursors)
    → map leaf_id cursors ≡ map id_of (leaves_of f 0 []) → All (λ c. IsAt c row) cursors → All (KnowsIn objects) cursors → NoneJoined f cursors error place → slice_get cursors place ≡ Some c → name ≡ cursor_name c
    → RefusesValue objects files count f row (Outside name (reason.Join error) row)
none_read objects files count row f cursors error place c name below reads ids at knows none there named =
    let found = leaf_at objects files count place (leaves_of f 0 []) cursors c reads there in (
      refl,
      record {
        leaf = found.leaf;
        is_one = contained (leaves_of f 0 []) place found.leaf found.there;
        column = column_read c;
        gives = found.gives;
        named = named;
        of_leaf = blamed_leaf (leaves_of f 0 []) cursors error none.id place found.leaf ids none.blames found.there none.at;
      },
      record {
        inside = below;
        runs = none.runs;
        of_row = runs_read objects files count row (leaves_of f 0 []) cursors none.runs reads at knows none.lent;
        cause = none.cause;
        is_cause = λ same.
            let no : None ≡ Some none.id = sym (ap blamed same) ∙ none.blames in
            absurd (cc no);
      },
    )

-- the object that a cursor gives up is its own
pub refused_page : (objects : List Object) (c : PlainCursor) (name : Name) (why : PageReason) (place : ℕ) → name ≡ cursor_name c → ColumnReasonStands (cursor_leaf c) (cursor_pages c) (object objects (cursor_name c)) why place → RefusesSeek objects c (Outside name (reason.Page why) place)
refused_page objects c name why place named stands = (named, subst (λ (n : Name). ColumnReasonStands (cursor_leaf c) (cursor_pages c) (object objects n) why place) (sym named) stands)

-- a value that no file gives is null
pub absent_read : (objects : List Object) (files : List DataFile) (count row : ℕ) (f : PlainField ℕ) → row < count → NoneGiven files f → IsValueOf objects files count f row null
absent_read objects files count row f below none fields rows top physical at =
    let within : row < length rows = omega (arith, below, physical.long) in
    sym ((physical.columns top f at).absent none row null (omega (arith, within, column_long top rows))) ∙ value_of_row rows top row null within

-- ---- what holds where the answer is one

pub on_ok : {T E : Type 0} {P : Type 0} (r : Result T E) → P → OnOk r P
on_ok (Ok x) p = p
on_ok (Err e) p = tt

pub on_ok_both : {T E : Type 0} {P Q R : Type 0} (r : Result T E) → OnOk r P → OnOk r Q → (P → Q → R) → OnOk r R
on_ok_both (Ok x) p q both = both p q
on_ok_both (Err e) p q both = tt
