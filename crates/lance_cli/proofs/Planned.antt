-- What planning a change answers: its objects, or why it is refused.
use Rattle.std.proofs.Common.{◌≡◌, refl, sym, ◌∙◌, ap, subst, ℕ, ◌+◌, List, [], ◌∷◌, map}
use Rattle.std.specs.Prelude.{Option, Some, None, Result, Ok, Err, Vec}
use Rattle.std.specs.Option.{ForSome}
use Rattle.std.specs.declared.alloc.Global.{Global}
use Rattle.lan_model.specs.Plain.{PlainField, PlainValue, unnumbered, plain_field}
use Rattle.lan_model.specs.PlainTable.{column_of}
use Rattle.lan_model.specs.Table.{AreColumns}
use Rattle.lan_model.specs.declared.tree.Field.{Field}
use Rattle.lan_store.specs.declared.name.Object.{Object}
use Rattle.lan_rows.specs.Lines.{rows_of}
use Rattle.lan_rows.specs.declared.lines.LinesFault.{LinesFault}
use Rattle.lan_rows.specs.declared.lines.LinesFault.TheVariants as unlined
use Rattle.lan_manifest.specs.Manifests.{PlainManifest, plain_manifest}
use Rattle.lan_manifest.specs.declared.manifest.Manifest.{Manifest}
use Rattle.lan_read.specs.Opening.{Opens}
use Rattle.lan_read.specs.Snapshots.{IsNewestManifest, IsSnapshot}
use Rattle.lan_read.specs.Tables.{HasManifest}
use Rattle.lan_read.proofs.LawTerms.{manifest_columns}
use Rattle.lan_commit.specs.Change as change
use Rattle.lan_commit.specs.Change.{manifest_after}
use Rattle.lan_commit.specs.ChangePuts.{Prepares}
use Rattle.lan_commit.specs.Creates.{PreparesCreate}
use Rattle.lan_commit.specs.Prepares.{StopsRightly}
use Rattle.lan_commit.specs.declared.new_rows.NewRows.{NewRows}
use Rattle.lan_commit.specs.declared.committing.CommitFault.{CommitFault}
use Rattle.lan_commit.specs.declared.committing.CommitFault.TheVariants as unmade
use Rattle.lance_cli.specs.Commands.{create, append, restore}
use Rattle.lance_cli.specs.Creates.{Takes, ReadsFields}
use Rattle.lance_cli.specs.Faults.{of_commit, of_lines}
use Rattle.lance_cli.specs.Lines.{KeepsRows, RowsAre}
use Rattle.lance_cli.specs.Plans.{Plans}
use Rattle.lance_cli.specs.Puts.{ReadsBoth, ReadsRows}
use Rattle.lance_cli.specs.Reports.{version_text}
use Rattle.lance_cli.specs.declared.fault.Fault.{Fault}
use Rattle.lance_cli.specs.declared.fault.Fault.TheVariants as fault
use Rattle.lance_cli.proofs.Numbered.{columns_are}

-- ---- create

-- the text is no schema
pub unread_fields : (before : Option (List Object)) (json : List ℕ) (line : ℕ) (lines : List (ℕ × List ℕ)) (f : Fault) → ReadsFields json line (Err f) → Plans before (record { asked = create json; line = line; lines = lines }) (Err f)
unread_fields before json line lines (fault.BadInput number why) bad = bad
unread_fields before json line lines fault.Memory memory = tt
unread_fields before json line lines f bad = absurd bad

-- the new dataset's object, or why there is none
pub planned_create : (before : Option (List Object)) (json : List ℕ) (line : ℕ) (lines : List (ℕ × List ℕ)) (fields : List (PlainField ℕ)) (objects : Vec Object Global) → Takes json fields → PreparesCreate fields before (Ok objects)
    → Plans before (record { asked = create json; line = line; lines = lines }) (Ok (record { version = 1; objects = objects }))
planned_create before json line lines fields objects takes (none, short, are) = λ old was. record {
  change = change.create fields;
  asks = (fields, takes, refl);
  after = none old was;
  no_limit = short;
  puts_are = are;
  text_is = refl;
}

pub unplanned_create : (before : Option (List Object)) (json : List ℕ) (line : ℕ) (lines : List (ℕ × List ℕ)) (fields : List (PlainField ℕ)) (f : CommitFault) → Takes json fields → PreparesCreate fields before (Err f)
    → Plans before (record { asked = create json; line = line; lines = lines }) (Err (of_commit f))
unplanned_create before json line lines fields (unmade.AlreadyThere version) takes newest = ((fields, takes), newest)
unplanned_create before json line lines fields (unmade.Limit which number) takes (none, limit) = (refl, λ old was. (change.create fields, (fields, takes, refl), none old was, limit))
unplanned_create before json line lines fields (unmade.Raced name) takes never = absurd never
unplanned_create before json line lines fields (unmade.Store name) takes stopped = tt
unplanned_create before json line lines fields unmade.Memory takes stopped = tt

-- ---- append

pub reads_as : (fields : List Field) (lines : List (ℕ × List ℕ)) (rows : Result (List (List PlainValue)) LinesFault) → rows_of (map column_of fields) lines ≡ rows → rows_of (map unnumbered (map plain_field fields)) lines ≡ rows
reads_as fields lines rows is = ap (λ columns. rows_of columns lines) (sym (columns_are fields)) ∙ is

-- lines that are no rows
pub refuses_lines : (fields : List (PlainField ℕ)) (wanted : Result (List (List PlainValue)) LinesFault) (why : LinesFault) (f : Fault) → wanted ≡ Err why → f ≡ of_lines why → RowsAre fields wanted (Err f)
refuses_lines fields wanted why f bad is = subst (λ g. RowsAre fields wanted (Err g)) (sym is) (go why bad) where
  go : (why : LinesFault) → wanted ≡ Err why → RowsAre fields wanted (Err (of_lines why))
  go (unlined.Bad line fault) bad = (unlined.Bad line fault, bad, refl)
  go (unlined.LineTooLong line) bad = (unlined.LineTooLong line, bad, refl)
  go unlined.Memory bad = tt

-- the fields of a manifest that was opened
pub opened_columns : (m s : Manifest) → m ≡ s → IsSnapshot (plain_manifest s) → AreColumns (map column_of m.fields)
opened_columns m s same is =
    subst (λ (n : Manifest). AreColumns (map column_of n.fields)) (sym same) (subst AreColumns (sym (columns_are s.fields)) (manifest_columns is.object s.version (plain_manifest s) is.stands))

-- a line is no row
pub unread_rows : (before : Option (List Object)) (m : Manifest) (line : ℕ) (lines : List (ℕ × List ℕ)) (f : Fault) → ForSome before (λ all. IsNewestManifest all (plain_manifest m)) → RowsAre (map plain_field m.fields) (rows_of (map column_of m.fields) lines) (Err f)
    → Plans before (record { asked = append; line = line; lines = lines }) (Err f)
unread_rows before m line lines (fault.BadInput number words) opens (why, bad, is) = λ all told. (plain_manifest m, why, opens all told, reads_as m.fields lines (Err why) bad, is)
unread_rows before m line lines fault.Memory opens rows = tt
unread_rows before m line lines f opens rows = absurd rows

append_number : (old : List Object) (m : PlainManifest) (rows : List (List PlainValue)) → m.version + 1 ≡ (manifest_after old (change.append m rows)).version
append_number old m [] = refl
append_number old m (row ∷ rows) = refl

-- the objects of the rows, or why there are none
pub planned_append : (before : Option (List Object)) (m : PlainManifest) (line : ℕ) (lines : List (ℕ × List ℕ)) (rows : List (List PlainValue)) (objects : Vec Object Global) → ForSome before (λ all. ReadsRows all lines m rows) → ForSome before (λ all. Prepares all (change.append m rows) (Ok objects))
    → Plans before (record { asked = append; line = line; lines = lines }) (Ok (record { version = m.version + 1; objects = objects }))
planned_append before m line lines rows objects reads prepares = λ old was. record {
  change = change.append m rows;
  asks = (m, rows, reads old was, refl);
  after = (reads old was).newest;
  no_limit = (prepares old was).0;
  puts_are = (prepares old was).1;
  text_is = ap version_text (append_number old m rows);
}

pub unplanned_append : (before : Option (List Object)) (m : PlainManifest) (line : ℕ) (lines : List (ℕ × List ℕ)) (rows : List (List PlainValue)) (f : CommitFault) → ForSome before (λ all. ReadsRows all lines m rows) → ForSome before (λ all. Prepares all (change.append m rows) (Err f))
    → StopsRightly {A = Vec Object Global} (Err f) → Plans before (record { asked = append; line = line; lines = lines }) (Err (of_commit f))
unplanned_append before m line lines rows (unmade.AlreadyThere version) reads prepares stops = absurd stops
unplanned_append before m line lines rows (unmade.Limit which number) reads prepares stops = (refl, λ old was. (change.append m rows, (m, rows, reads old was, refl), (reads old was).newest, prepares old was))
unplanned_append before m line lines rows (unmade.Raced name) reads prepares stops = absurd stops
unplanned_append before m line lines rows (unmade.Store name) reads prepares stops = tt
unplanned_append before m line lines rows unmade.Memory reads prepares stops = tt

-- what is read of the lines, by the newest manifest's fields
pub rows_read : (before : Option (List Object)) (m : Manifest) (lines : List (ℕ × List ℕ)) (kept : NewRows) → ForSome before (λ all. IsNewestManifest all (plain_manifest m)) → (k : KeepsRows (map plain_field m.fields) (rows_of (map column_of m.fields) lines) kept)
    → ForSome before (λ all. ReadsRows all lines (plain_manifest m) k.rows)
rows_read before m lines kept opens k = λ old was. record { newest = opens old was; reads = reads_as m.fields lines (Ok k.rows) k.read; can = k.has.can; few = k.few }

-- ---- restore

-- the object of the old version, or why there is none
pub planned_restore : (before : Option (List Object)) (version line : ℕ) (lines : List (ℕ × List ℕ)) (newest old : PlainManifest) (objects : Vec Object Global) → ForSome before (λ all. ReadsBoth all version newest old) → ((all : List Object) → Prepares all (change.restore newest old) (Ok objects))
    → Plans before (record { asked = restore version; line = line; lines = lines }) (Ok (record { version = newest.version + 1; objects = objects }))
planned_restore before version line lines newest old objects reads prepares = λ all was. record {
  change = change.restore newest old;
  asks = (newest, old, reads all was, refl);
  after = (reads all was).is_newest;
  no_limit = (prepares all).0;
  puts_are = (prepares all).1;
  text_is = refl;
}

pub unplanned_restore : (before : Option (List Object)) (version line : ℕ) (lines : List (ℕ × List ℕ)) (newest old : PlainManifest) (f : CommitFault) → ForSome before (λ all. ReadsBoth all version newest old) → ((all : List Object) → Prepares all (change.restore newest old) (Err f))
    → Plans before (record { asked = restore version; line = line; lines = lines }) (Err (of_commit f))
unplanned_restore before version line lines newest old (unmade.AlreadyThere number) reads prepares = absurd (prepares [])
unplanned_restore before version line lines newest old (unmade.Limit which number) reads prepares = (refl, λ all was. (change.restore newest old, (newest, old, reads all was, refl), (reads all was).is_newest, prepares all))
unplanned_restore before version line lines newest old (unmade.Raced name) reads prepares = absurd (prepares [])
unplanned_restore before version line lines newest old (unmade.Store name) reads prepares = tt
unplanned_restore before version line lines newest old unmade.Memory reads prepares = tt

-- what is read of both manifests
pub both_read : (before : Option (List Object)) (version : ℕ) (newest old : Manifest) → ForSome before (λ all. Opens all None (Ok newest)) → ForSome before (λ all. Opens all (Some version) (Ok old)) → ForSome before (λ all. ReadsBoth all version (plain_manifest newest) (plain_manifest old))
both_read before version newest old opens opens_old = λ all was.
    let (last, has) = opens all was in
    let ((listed, is), had) = opens_old all was in
    record {
      is_newest = record { newest = last; has = has };
      numbered = is;
      has = subst (λ v. HasManifest all v (plain_manifest old)) is had;
    }
