-- One row more, in each leaf.
use Rattle.std.proofs.Common.{◌≡◌, ℕ, ◌+◌, ◌^◌, ◌<◌, ◌≤◌, refl, sym, ◌∙◌, ap, ap₂, subst, List, [], ◌∷◌, ◌++◌, length, get_or, map, drop, set, take, replicate, arith, append_assoc, append-nil}
use Rattle.std.specs.Prelude.{All, Some, slice_get}
use Rattle.std.proofs.lemmas.List.{drop_more, get_or-map, length-map, length_push, map-append, take_more_set}
use Rattle.std.proofs.lemmas.List.Elements.{All-nil, All-cons, All-append}
use Rattle.lan_levels.specs.PlainSlots.{PlainSlot}
use Rattle.lan_levels.specs.SlotsOf.{row_slots, rows_slots}
use Rattle.lan_model.specs.declared.tree.Leaf.{Leaf}
use Rattle.lan_model.specs.Leaves.{PlainLeaf, leaves_from, plain_leaf, plain_leaves}
use Rattle.lan_model.specs.Plain.{PlainField, PlainValue, PlainValues, fields_from, values_from, unnumbered}
use Rattle.lan_model.specs.Room.{AllHaveRoom}
use Rattle.lan_model.specs.Table.{AreColumns, FitsRow}
use Rattle.lan_schema.proofs.LawTerms.{columns_same}
use Rattle.lan_schema.proofs.Numbering.{left_at}
use Rattle.lan_commit.specs.Shredded.{with_row, columns_of, AreRows}
use Rattle.lan_commit.proofs.LeafDepths.{leaves_shallow}

slots_more : (leaf : PlainLeaf) (rows : List PlainValues) (row : PlainValues) → rows_slots leaf rows ++ row_slots leaf row ≡ rows_slots leaf (rows ++ row ∷ [])
slots_more leaf [] row = sym (append-nil (row_slots leaf row))
slots_more leaf (r ∷ rows) row = append_assoc (row_slots leaf r) (rows_slots leaf rows) (row_slots leaf row) ∙ ap (λ (l : List PlainSlot). row_slots leaf r ++ l) (slots_more leaf rows row)

leaves_more : (leaves : List PlainLeaf) (rows : List PlainValues) (row : PlainValues) → with_row leaves row (map (λ leaf. rows_slots leaf rows) leaves) ≡ map (λ leaf. rows_slots leaf (rows ++ row ∷ [])) leaves
leaves_more [] rows row = refl
leaves_more (leaf ∷ leaves) rows row = λ i. slots_more leaf rows row i ∷ leaves_more leaves rows row i

columns_more : (fields : List (PlainField ℕ)) (rows : List (List PlainValue)) (row : List PlainValue) → with_row (leaves_from (fields_from fields) 0) (values_from row) (columns_of fields rows) ≡ columns_of fields (rows ++ row ∷ [])
columns_more fields rows row =
    let leaves = leaves_from (fields_from fields) 0 in
    leaves_more leaves (map values_from rows) (values_from row) ∙ ap (λ (rs : List PlainValues). map (λ leaf. rows_slots leaf rs) leaves) (sym (map-append values_from rows (row ∷ [])))

-- one row more
pub row_more : (fields : List (PlainField ℕ)) (rows : List (List PlainValue)) (row : List PlainValue) (leaves : List PlainLeaf) (was now : List (List PlainSlot)) (count : ℕ) → AreRows fields rows (record { leaves = leaves; columns = was; count = count })
    → FitsRow fields row → AllHaveRoom (values_from row) → now ≡ with_row leaves (values_from row) was → All (λ slots. length slots < 2 ^ 64) now → AreRows fields (rows ++ row ∷ []) (record { leaves = leaves; columns = now; count = count + 1 })
row_more fields rows row leaves was now count are fits room is counted =
    let columns : now ≡ columns_of fields (rows ++ row ∷ []) =
    is ∙ ap (λ (ls : List PlainLeaf). with_row ls (values_from row) was) are.leaves ∙ ap (with_row (leaves_from (fields_from fields) 0) (values_from row)) are.columns ∙ columns_more fields rows row in
    record {
      leaves = are.leaves;
      columns = columns;
      count = omega (arith, are.count, length_push rows row);
      can = record {
        fit = All-append (FitsRow fields) rows (row ∷ []) are.can.fit (All-cons (FitsRow fields) row [] fits (All-nil (FitsRow fields)));
        room = All-append (λ (r : List PlainValue). AllHaveRoom (values_from r)) rows (row ∷ []) are.can.room (All-cons (λ (r : List PlainValue). AllHaveRoom (values_from r)) row [] room (All-nil (λ (r : List PlainValue). AllHaveRoom (values_from r))));
        counted = subst (All (λ (slots : List PlainSlot). length slots < 2 ^ 64)) columns counted;
      };
    }

none_yet : (leaves : List PlainLeaf) → replicate (length leaves) [] ≡ map (λ leaf. rows_slots leaf []) leaves
none_yet [] = refl
none_yet (leaf ∷ leaves) = ap (λ (cs : List (List PlainSlot)). [] ∷ cs) (none_yet leaves)

none_counted : (leaves : List PlainLeaf) → All (λ slots. length slots < 2 ^ 64) (map (λ leaf. rows_slots leaf []) leaves)
none_counted [] = All-nil (λ (slots : List PlainSlot). length slots < 2 ^ 64)
none_counted (leaf ∷ leaves) = All-cons (λ (slots : List PlainSlot). length slots < 2 ^ 64) [] (map (λ leaf. rows_slots leaf []) leaves) (omega arith) (none_counted leaves)

-- no rows
pub no_rows_yet : (fields : List (PlainField ℕ)) (leaves : List PlainLeaf) (columns : List (List PlainSlot)) → leaves ≡ leaves_from (fields_from fields) 0 → columns ≡ replicate (length leaves) [] → AreRows fields [] (record { leaves = leaves; columns = columns; count = 0 })
no_rows_yet fields leaves columns is empty = record {
  leaves = is;
  columns = empty ∙ none_yet leaves ∙ ap (map (λ leaf. rows_slots leaf [])) is;
  count = refl;
  can = record { fit = All-nil (FitsRow fields); room = All-nil (λ (r : List PlainValue). AllHaveRoom (values_from r)); counted = none_counted (leaves_from (fields_from fields) 0) };
}

-- one leaf more has the row
pub leaf_more : (leaves : List Leaf) (row : PlainValues) (was now : List (List PlainSlot)) (i : ℕ) (leaf : Leaf) (x y : List PlainSlot) (whole : List (List PlainSlot)) → i < length leaves → length was ≡ length leaves → length now ≡ length was → drop i now ≡ drop i was
    → slice_get now i ≡ Some x → leaf ≡ get_or leaves i leaf → y ≡ x ++ row_slots (plain_leaf leaf) row → take i now ++ with_row (plain_leaves (drop i leaves)) row (drop i was) ≡ whole
    → take (i + 1) (set now i y) ++ with_row (plain_leaves (drop (i + 1) leaves)) row (drop (i + 1) was) ≡ whole
leaf_more leaves row was now i leaf x y whole below paired same rest at is adds done =
    let later = with_row (plain_leaves (drop (i + 1) leaves)) row (drop (i + 1) was) in
    let (here, left) = left_at now was i x same rest (omega (arith, below, paired)) at in
    let ahead : drop i leaves ≡ leaf ∷ drop (i + 1) leaves = drop_more leaves i leaf below ∙ ap (λ (l : Leaf). l ∷ drop (i + 1) leaves) (sym is) in
    let one : with_row (plain_leaves (drop i leaves)) row (drop i was) ≡ (x ++ row_slots (plain_leaf leaf) row) ∷ later = ap₂ (λ (ls : List Leaf) (cs : List (List PlainSlot)). with_row (plain_leaves ls) row cs) ahead left in
    ap (λ (l : List (List PlainSlot)). l ++ later) (take_more_set now i y (omega (arith, below, paired, same))) ∙ append_assoc (take i now) (y ∷ []) later ∙ ap (λ (s : List PlainSlot). take i now ++ (s ∷ later)) adds
    ∙ ap (λ (l : List (List PlainSlot)). take i now ++ l) (sym one) ∙ done

pub counted_more : (now : List (List PlainSlot)) (i : ℕ) (y : List PlainSlot) → i < length now → length y < 2 ^ 64 → All (λ slots. length slots < 2 ^ 64) (take i now) → All (λ slots. length slots < 2 ^ 64) (take (i + 1) (set now i y))
counted_more now i y below small each =
    let Counted : List PlainSlot → Type 0 = λ (slots : List PlainSlot). length slots < 2 ^ 64 in
    subst (All Counted) (sym (take_more_set now i y below)) (All-append Counted (take i now) (y ∷ []) each (All-cons Counted y [] small (All-nil Counted)))

-- leaves of a table are shallow
pub shallow : (fields : List (PlainField ℕ)) (leaves : List Leaf) → AreColumns (map unnumbered fields) → plain_leaves leaves ≡ leaves_from (fields_from fields) 0 → All (λ (leaf : Leaf). length leaf.layers ≤ 16) leaves
shallow fields leaves columns is k d below =
    let all : All (λ (leaf : PlainLeaf). length leaf.layers ≤ 16) (plain_leaves leaves) = subst (All (λ (leaf : PlainLeaf). length leaf.layers ≤ 16)) (sym is) (leaves_shallow (fields_from fields) 0 ((columns_same fields).0 columns).layers) in
    subst (λ (leaf : PlainLeaf). length leaf.layers ≤ 16) (get_or-map plain_leaf leaves k d (plain_leaf d) below) (all k (plain_leaf d) (omega (arith, below, length-map leaves plain_leaf)))
