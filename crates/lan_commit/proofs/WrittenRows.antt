-- The data file of rows is a file of them.
use Rattle.std.proofs.Common.{◌≡◌, refl, sym, ◌∙◌, ap, subst, ℕ, ◌+◌, ◌^◌, ◌<◌, ◌≤◌, List, [], ◌∷◌, ◌++◌, length, map, arith, append_assoc}
use Rattle.std.specs.Prelude.{All, Some, slice_get}
use Rattle.std.proofs.lemmas.List.{get_or-map, length-map, length_push}
use Rattle.std.proofs.lemmas.List.Elements.{All-map}
use Rattle.lan_levels.specs.PlainSlots.{PlainSlot}
use Rattle.lan_levels.specs.SlotsOf.{rows_slots}
use Rattle.lan_model.specs.Fits.{EachFits}
use Rattle.lan_model.specs.Leaves.{PlainLeaf, leaves_from}
use Rattle.lan_model.specs.Plain.{PlainField, PlainValue, PlainValues, fields_from, values_from}
use Rattle.lan_model.specs.Room.{AllHaveRoom}
use Rattle.lan_schema.specs.Written.{AreTableFields}
use Rattle.lan_file.specs.FileOf.{IsFileOf}
use Rattle.lan_file.specs.FileText.{file_text}
use Rattle.lan_file.specs.SlotsWritten.{AreLeaves, TakesRows, rows_columns, slots_asked}
use Rattle.lan_file.proofs.LawTerms.{rows_are_a_file}
use Rattle.lan_read.specs.Listings.{IsFileOfRows, picks_from}
use Rattle.lan_commit.specs.ChangePuts.{rows_text}
use Rattle.lan_commit.specs.Shredded.{CanBeWritten}
use Rattle.lan_commit.proofs.LeafDepths.{leaves_long, leaves_shallow, leaves_take}

at_seam : (front : List PlainLeaf) (leaf : PlainLeaf) (rest : List PlainLeaf) → slice_get (front ++ leaf ∷ rest) (length front) ≡ Some leaf
at_seam [] leaf rest = refl
at_seam (l ∷ front) leaf rest = at_seam front leaf rest

picks_are_leaves : (front leaves : List PlainLeaf) (n : ℕ) → length front ≡ n → AreLeaves (front ++ leaves) (picks_from n leaves)
picks_are_leaves front [] n long = tt
picks_are_leaves front (leaf ∷ leaves) n long = (
  ap (slice_get (front ++ leaf ∷ leaves)) (sym long) ∙ at_seam front leaf leaves,
  subst (λ (ls : List PlainLeaf). AreLeaves ls (picks_from (n + 1) leaves)) (append_assoc front (leaf ∷ []) leaves) (picks_are_leaves (front ++ leaf ∷ []) leaves (n + 1) (omega (arith, long, length_push front leaf))),
)

asked_are : (rows : List PlainValues) (leaves : List PlainLeaf) (n : ℕ) → slots_asked rows (picks_from n leaves) ≡ map (λ leaf. rows_slots leaf rows) leaves
asked_are rows [] n = refl
asked_are rows (leaf ∷ leaves) n = ap (λ (l : List (List PlainSlot)). rows_slots leaf rows ∷ l) (asked_are rows leaves (n + 1))

takes_rows : (fields : List (PlainField ℕ)) (rows : List (List PlainValue)) → AreTableFields (fields_from fields) → CanBeWritten fields rows → All (TakesRows (map values_from rows)) (leaves_from (fields_from fields) 0)
takes_rows fields rows table can k d below =
    let fs = fields_from fields in
    let leaves = leaves_from fs 0 in
    let slots : PlainLeaf → List PlainSlot = λ (leaf : PlainLeaf). rows_slots leaf (map values_from rows) in
    record {
      layers = leaves_shallow fs 0 table.layers k d below;
      bytes = leaves_take fs 0 table.each k d below;
      few = subst (λ (s : List PlainSlot). length s < 2 ^ 64) (get_or-map slots leaves k d (slots d) below) (can.counted k (slots d) (omega (arith, below, length-map leaves slots)));
    }

-- where its bytes may stand
pub rows_file : (fields : List (PlainField ℕ)) (rows : List (List PlainValue)) → AreTableFields (fields_from fields) → CanBeWritten fields rows → length rows < 2 ^ 31 → length (rows_text fields rows) ≤ 2 ^ 30 → IsFileOfRows fields (rows_text fields rows) rows
rows_file fields rows table can few small =
    let fs = fields_from fields in
    let leaves = leaves_from fs 0 in
    let plain : List PlainValues = map values_from rows in
    let count : length plain ≡ length rows = length-map rows values_from in
    let text : ℕ → List ℕ = λ (n : ℕ). file_text fs n (rows_columns fs plain) in
    let is : IsFileOf (picks_from 0 leaves) (text (length plain)) (length plain) (slots_asked plain (picks_from 0 leaves)) =
    rows_are_a_file fs plain (picks_from 0 leaves) (All-map (EachFits fs) values_from rows can.fit) (All-map AllHaveRoom values_from rows can.room) (takes_rows fields rows table can) (omega (arith, count, few)) (omega (arith, leaves_long fs 0, table.leaves))
    (omega (arith, small, ap (λ (n : ℕ). length (text n)) count)) (picks_are_leaves [] leaves 0 refl) in
    subst (λ (s : List (List PlainSlot)). IsFileOf (picks_from 0 leaves) (rows_text fields rows) (length rows) s) (asked_are plain leaves 0)
    (subst (λ (n : ℕ). IsFileOf (picks_from 0 leaves) (text n) n (slots_asked plain (picks_from 0 leaves))) count is)
