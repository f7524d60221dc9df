-- What a change's new version stands for, where the version before it stands for a table.
use Rattle.std.proofs.Common.{◌≡◌, sym, ◌∙◌, ap, refl, ℕ, zero, suc, ◌<◌, List, [], ◌∷◌, ◌++◌, length, map, subst}
use Rattle.std.specs.Prelude.{All, remove}
use Rattle.std.proofs.lemmas.List.{map-append}
use Rattle.std.proofs.lemmas.List.Elements.{All-append, All-cons, All-nil}
use Rattle.lan_model.specs.After.{each_with}
use Rattle.lan_model.specs.Dataset.{Dataset, with_version}
use Rattle.lan_model.specs.Fits.{Fits}
use Rattle.lan_model.specs.Plain.{PlainField, PlainValue, null, unnumbered}
use Rattle.lan_model.specs.Table.{Column, Table}
use Rattle.lan_store.specs.declared.name.Object.{Object}
use Rattle.lan_manifest.specs.declared.manifest.Fragment.{Fragment}
use Rattle.lan_manifest.specs.Manifests.{PlainManifest}
use Rattle.lan_manifest.specs.Versions.{AreListed}
use Rattle.lan_read.specs.Changes.{AddToEach}
use Rattle.lan_read.specs.Given.{NoneGiven}
use Rattle.lan_read.specs.Rows.{FragmentGives, FragmentsGive}
use Rattle.lan_read.specs.Tables.{AgreesWith, HasManifest, StandsFor}
use Rattle.lan_read.proofs.ChangedRows.{add_column_rows, add_null_rows, append_rows, drop_column_rows, with_null}
use Rattle.lan_read.proofs.KeptTables.{fragments_stay, table_stays}
use Rattle.lan_read.proofs.RowLists.{Row}
use Rattle.lan_read.proofs.SingleTable.{one_manifest_held}

-- a version's manifest gives the columns and the rows of its table
record GivenBy (objects : List Object) (m : PlainManifest) (t : Table) : Type 0 where
  columns : t.columns ≡ map unnumbered m.fields
  rows : FragmentsGive objects m.fields m.fragments t.rows

given_by : (objects more : List Object) (version : ℕ) (t : Table) (m : PlainManifest) → StandsFor objects version t → HasManifest objects version m → GivenBy (objects ++ more) m t
given_by objects more version t m stands has =
    subst (λ (n : PlainManifest). GivenBy (objects ++ more) n t) (one_manifest_held objects version stands.manifest m stands.has has)
    (record { columns = stands.columns; rows = fragments_stay objects more stands.manifest.fields stands.manifest.fragments t.rows stands.rows })

stands_by : (objects : List Object) (version : ℕ) (m : PlainManifest) (fields : List (PlainField ℕ)) (fragments : List Fragment) (columns : List Column) (rows : List Row) → HasManifest objects version m → m.fields ≡ fields → m.fragments ≡ fragments
    → columns ≡ map unnumbered fields → FragmentsGive objects fields fragments rows → StandsFor objects version (record { columns = columns; rows = rows })
stands_by objects version m fields fragments columns rows has same_fields same_fragments are given = record {
  manifest = m;
  has = has;
  columns = are ∙ ap (map unnumbered) (sym same_fields);
  rows = subst (λ (l : List Fragment). FragmentsGive objects m.fields l rows) (sym same_fragments) (subst (λ (l : List (PlainField ℕ)). FragmentsGive objects l fragments rows) (sym same_fields) given);
}

-- the first version
pub create_stands : (objects : List Object) (version : ℕ) (m : PlainManifest) → HasManifest objects version m → m.fragments ≡ [] → StandsFor objects version (record { columns = map unnumbered m.fields; rows = [] })
create_stands objects version m has none = stands_by objects version m m.fields [] (map unnumbered m.fields) [] has refl none refl refl

pub append_stands : (objects more : List Object) (old new : ℕ) (t : Table) (n m : PlainManifest) (f : Fragment) (rows : List Row) → StandsFor objects old t → HasManifest objects old n → HasManifest (objects ++ more) new m
    → m.fields ≡ n.fields → m.fragments ≡ n.fragments ++ f ∷ [] → FragmentGives (objects ++ more) n.fields f rows → StandsFor (objects ++ more) new (record t { rows = t.rows ++ rows })
append_stands objects more old new t n m f rows stands has now fields fragments given =
    let before = given_by objects more old t n stands has in
    stands_by (objects ++ more) new m n.fields (n.fragments ++ f ∷ []) t.columns (t.rows ++ rows) now fields fragments before.columns (append_rows (objects ++ more) n.fields n.fragments f t.rows rows before.rows given)

-- another version of the same fields and fragments
pub restore_stands : (objects more : List Object) (old new : ℕ) (t : Table) (n m : PlainManifest) → StandsFor objects old t → HasManifest objects old n → HasManifest (objects ++ more) new m
    → m.fields ≡ n.fields → m.fragments ≡ n.fragments → StandsFor (objects ++ more) new t
restore_stands objects more old new t n m stands has now fields fragments =
    let before = given_by objects more old t n stands has in
    stands_by (objects ++ more) new m n.fields n.fragments t.columns t.rows now fields fragments before.columns before.rows

columns_more : (fields : List (PlainField ℕ)) (g : PlainField ℕ) (columns : List Column) → columns ≡ map unnumbered fields → columns ++ unnumbered g ∷ [] ≡ map unnumbered (fields ++ g ∷ [])
columns_more fields g columns are = ap (λ (l : List Column). l ++ unnumbered g ∷ []) are ∙ sym (map-append unnumbered fields (g ∷ []))

pub add_null_stands : (objects more : List Object) (old new : ℕ) (t : Table) (n m : PlainManifest) (g : PlainField ℕ) → StandsFor objects old t → HasManifest objects old n → HasManifest (objects ++ more) new m
    → m.fields ≡ n.fields ++ g ∷ [] → m.fragments ≡ n.fragments → All (λ (f : Fragment). NoneGiven f.files g) n.fragments → Fits g null
    → StandsFor (objects ++ more) new (record { columns = t.columns ++ unnumbered g ∷ []; rows = map (λ (row : Row). row ++ null ∷ []) t.rows })
add_null_stands objects more old new t n m g stands has now fields fragments none nullable =
    let before = given_by objects more old t n stands has in
    stands_by (objects ++ more) new m (n.fields ++ g ∷ []) n.fragments (t.columns ++ unnumbered g ∷ []) (map with_null t.rows) now fields fragments (columns_more n.fields g t.columns before.columns)
    (add_null_rows (objects ++ more) n.fields n.fragments g t.rows none nullable before.rows)

pub add_column_stands : (objects more : List Object) (old new : ℕ) (t : Table) (n m : PlainManifest) (g : PlainField ℕ) (values : List PlainValue) → StandsFor objects old t → HasManifest objects old n → HasManifest (objects ++ more) new m
    → m.fields ≡ n.fields ++ g ∷ [] → AddToEach (objects ++ more) n.fields g n.fragments m.fragments values
    → StandsFor (objects ++ more) new (record { columns = t.columns ++ unnumbered g ∷ []; rows = each_with t.rows values })
add_column_stands objects more old new t n m g values stands has now fields adds =
    let before = given_by objects more old t n stands has in
    stands_by (objects ++ more) new m (n.fields ++ g ∷ []) m.fragments (t.columns ++ unnumbered g ∷ []) (each_with t.rows values) now fields refl (columns_more n.fields g t.columns before.columns)
    (add_column_rows (objects ++ more) n.fields g n.fragments m.fragments values t.rows adds before.rows)

map-remove : {X Y : Type 0} (g : X → Y) (xs : List X) (p : ℕ) → map g (remove xs p) ≡ remove (map g xs) p
map-remove g [] zero = refl
map-remove g [] (suc p) = refl
map-remove g (x ∷ xs) zero = refl
map-remove g (x ∷ xs) (suc p) = ap (λ (l : List _). g x ∷ l) (map-remove g xs p)

pub drop_column_stands : (objects more : List Object) (old new : ℕ) (t : Table) (n m : PlainManifest) (p : ℕ) → StandsFor objects old t → HasManifest objects old n → HasManifest (objects ++ more) new m
    → p < length n.fields → m.fields ≡ remove n.fields p → m.fragments ≡ n.fragments
    → StandsFor (objects ++ more) new (record { columns = remove t.columns p; rows = map (λ (row : Row). remove row p) t.rows })
drop_column_stands objects more old new t n m p stands has now below fields fragments =
    let before = given_by objects more old t n stands has in
    stands_by (objects ++ more) new m (remove n.fields p) n.fragments (remove t.columns p) (map (λ (row : Row). remove row p) t.rows) now fields fragments
    (ap (λ (l : List Column). remove l p) before.columns ∙ sym (map-remove unnumbered n.fields p))
    (drop_column_rows (objects ++ more) n.fields n.fragments p t.rows below before.rows)

-- with a version more, and objects more, all that stood stands
pub agreement_stays : (objects more : List Object) (version : ℕ) (t : Table) (d : Dataset) → AgreesWith objects d → AreListed (objects ++ more) (d.listed ++ version ∷ []) → StandsFor (objects ++ more) version t → AgreesWith (objects ++ more) (with_version d version t)
agreement_stays objects more version t d agrees listed new = record {
  listed = listed;
  stands = All-append (λ (p : ℕ × Table). StandsFor (objects ++ more) p.0 p.1) d.stands ((version, t) ∷ [])
      (λ k e below. table_stays objects more _ _ (agrees.stands k e below))
      (All-cons (λ (p : ℕ × Table). StandsFor (objects ++ more) p.0 p.1) (version, t) [] new (All-nil (λ (p : ℕ × Table). StandsFor (objects ++ more) p.0 p.1)));
}
