-- The pages that are built of new rows.
use Rattle.std.proofs.Common.{◌≡◌, ℕ, ◌^◌, ◌<◌, refl, sym, ◌∙◌, ap, subst, List, [], ◌∷◌, length, get_or, map, arith}
use Rattle.std.specs.Prelude.{All, sum_by}
use Rattle.std.proofs.lemmas.List.{get_or-map, length-map}
use Rattle.std.proofs.lemmas.List.Elements.{All-head, All-map, All-tail}
use Rattle.lan_levels.specs.PlainSlots.{PlainSlot}
use Rattle.lan_levels.specs.SlotsOf.{rows_slots}
use Rattle.lan_levels.specs.ZipForm.{leaf_form}
use Rattle.lan_levels.specs.ZipWritten.{CanStand}
use Rattle.lan_zip.proofs.Standing.{rows_stand}
use Rattle.lan_meta.specs.declared.page.BuiltPage.{BuiltPage}
use Rattle.lan_meta.specs.ColumnWritten.{written}
use Rattle.lan_model.specs.Fits.{EachFits}
use Rattle.lan_model.specs.Leaves.{PlainLeaf, leaves_from}
use Rattle.lan_model.specs.Plain.{PlainField, PlainValue, PlainValues, fields_from, unnumbered, values_from}
use Rattle.lan_model.specs.Room.{AllHaveRoom}
use Rattle.lan_model.specs.Table.{AreColumns}
use Rattle.lan_schema.proofs.LawTerms.{columns_same}
use Rattle.lan_file.specs.SlotsWritten.{Given, given_of, rows_columns}
use Rattle.lan_file.specs.SlotsWritten.{columns_of as pages_of}
use Rattle.lan_commit.specs.BuiltColumns.{CanBeBuilt, built}
use Rattle.lan_commit.specs.Shredded.{AreRows, CanBeWritten, Shredded, columns_of}
use Rattle.lan_commit.proofs.LeafDepths.{leaves_long}
use Rattle.lan_commit.proofs.PagesCounted.{rows_few}

-- the slots of the rows can stand in a page of the leaf
abbrev CanStandIn : List PlainValues → PlainLeaf → Type 0
CanStandIn rows leaf = All (CanStand (leaf_form leaf)) (rows_slots leaf rows)

each_can : (rows : List PlainValues) (leaves : List PlainLeaf) → All (CanStandIn rows) leaves → CanBeBuilt leaves (map (λ leaf. rows_slots leaf rows) leaves)
each_can rows [] can = tt
each_can rows (leaf ∷ leaves) can = (All-head (CanStandIn rows) leaf leaves can, each_can rows leaves (All-tail (CanStandIn rows) leaf leaves can))

pub can_be_built : (fields : List (PlainField ℕ)) (rows : List (List PlainValue)) (kept : Shredded) → AreRows fields rows kept → CanBeBuilt kept.leaves kept.columns
can_be_built fields rows kept are =
    let fs = fields_from fields in
    let stand = rows_stand fs (map values_from rows) (All-map (EachFits fs) values_from rows are.can.fit) (All-map AllHaveRoom values_from rows are.can.room) in
    subst (CanBeBuilt kept.leaves) (sym are.columns) (subst (λ (ls : List PlainLeaf). CanBeBuilt ls (columns_of fields rows)) (sym are.leaves) (each_can (map values_from rows) (leaves_from fs 0) stand))

each_built : (rows : List PlainValues) (leaves : List PlainLeaf) → built leaves (map (λ leaf. rows_slots leaf rows) leaves) ≡ pages_of (map (given_of rows) leaves)
each_built rows [] = refl
each_built rows (leaf ∷ leaves) = ap (λ (cs : List (List BuiltPage)). written leaf (rows_slots leaf rows) ∷ cs) (each_built rows leaves)

-- they are the columns of the file of the rows
pub rows_built : (fields : List (PlainField ℕ)) (rows : List (List PlainValue)) (kept : Shredded) → AreRows fields rows kept → built kept.leaves kept.columns ≡ rows_columns (fields_from fields) (map values_from rows)
rows_built fields rows kept are =
    ap (built kept.leaves) are.columns ∙ ap (λ (ls : List PlainLeaf). built ls (columns_of fields rows)) are.leaves ∙ each_built (map values_from rows) (leaves_from (fields_from fields) 0)

-- of which there are few
pub few_built : (fields : List (PlainField ℕ)) (rows : List PlainValues) → AreColumns (map unnumbered fields) → length (rows_columns (fields_from fields) rows) < 2 ^ 32
few_built fields rows columns =
    let fs = fields_from fields in
    omega (arith, length-map (map (given_of rows) (leaves_from fs 0)) (λ (g : Given). written g.leaf g.slots), length-map (leaves_from fs 0) (given_of rows), leaves_long fs 0, ((columns_same fields).0 columns).leaves)

-- and their rows can be counted
pub counted_built : (fields : List (PlainField ℕ)) (rows : List (List PlainValue)) → CanBeWritten fields rows → All (λ (pages : List BuiltPage). sum_by (λ (page : BuiltPage). page.rows) pages < 2 ^ 64) (rows_columns (fields_from fields) (map values_from rows))
counted_built fields rows can =
    let leaves = leaves_from (fields_from fields) 0 in
    let plain : List PlainValues = map values_from rows in
    let slots : PlainLeaf → List PlainSlot = λ (leaf : PlainLeaf). rows_slots leaf plain in
    let Counted : List BuiltPage → Type 0 = λ (pages : List BuiltPage). sum_by (λ (page : BuiltPage). page.rows) pages < 2 ^ 64 in
    All-map Counted (λ (g : Given). written g.leaf g.slots) (map (given_of plain) leaves)
    (All-map (λ (g : Given). Counted (written g.leaf g.slots)) (given_of plain) leaves
    (λ k d below.
    let leaf = get_or leaves k d in
    let few : length (slots leaf) < 2 ^ 64 = subst (λ (s : List PlainSlot). length s < 2 ^ 64) (get_or-map slots leaves k d (slots d) below) (can.counted k (slots d) (omega (arith, below, length-map leaves slots))) in
    omega (arith, rows_few leaf (slots leaf), few)))
