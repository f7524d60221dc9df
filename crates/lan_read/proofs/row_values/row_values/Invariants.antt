use Rattle.std.proofs.Common.{◌≡◌, ◌∷◌, ◌<◌, ℕ, List, length, map, take, drop}
use Rattle.std.specs.Prelude.{All, None}
use Rattle.std.specs.Option.{ForSome}
use Rattle.lan_model.specs.Plain.{plain_field}
use Rattle.lan_model.specs.PlainTable.{row_of}
use Rattle.lan_model.specs.Table.{FitsRow}
use Rattle.lan_store.specs.Budget.{Spends}
use Rattle.lan_store.specs.Looked.{Looked}
use Rattle.lan_store.specs.declared.name.Object.{Object}
use Rattle.lan_manifest.specs.declared.manifest.DataFile.{DataFile}
use Rattle.lan_read.specs.FieldReaders.{ReaderHolds, ReaderKnows}
use Rattle.lan_read.specs.Opened.{CanReadFrom}
use Rattle.lan_read.specs.RowValues.{AreValuesOf, ReadFields}
use Rattle.lan_read.proofs.RowReaders.{row_most, rows_due}
use Rattle.lan_read.proofs.Totals.{between, total}
use Rattle.lan_read.proofs.row_values.row_values.Given as goal

abbrev pub invariant-loop-i : goal.invariant-loop-i
invariant-loop-i g l = record {
  long : length l.readers ≡ length l.initial.readers;
  rest : drop l.i l.readers ≡ drop l.i l.initial.readers;
  fits : FitsRow (take l.i (map plain_field l.fields)) (row_of l.values);
  can : (count : ℕ) → CanReadFrom (map plain_field l.fields) l.row count l.initial.readers → CanReadFrom (map plain_field l.fields) l.row count l.readers;
  knows : ForSome (g.S.Store.tells l.store).objects (λ all. All (ReaderKnows all) l.readers);
  holds : (objects : List Object) → All (ReaderHolds objects) l.initial.readers → All (ReaderHolds objects) l.readers;
  reads : (objects : List Object) (files : List DataFile) (count : ℕ) → ReadFields objects files count (map plain_field l.fields) l.initial.readers → ReadFields objects files count (map plain_field l.fields) l.readers;
  answer : ForSome (g.S.Store.tells l.initial.store).objects (λ all. (files : List DataFile) (count : ℕ) → l.row < count → ReadFields all files count (map plain_field l.fields) l.initial.readers → AreValuesOf all files count (take l.i (map plain_field l.fields)) l.row (row_of l.values));
  spends : ForSome (g.S.Store.tells l.initial.store).objects (λ all. (later : List ℕ) → All (ReaderHolds all) l.initial.readers → Spends (total (rows_due all (l.row ∷ later)) l.initial.readers) (between (rows_due all (l.row ∷ later)) (rows_due all later) l.initial.readers l.readers l.i) (g.S.Store.tells l.initial.store) (g.S.Store.tells l.store));
  looked : Looked None (total (row_most l.row) (take l.i l.initial.readers)) (g.S.Store.tells l.initial.store) (g.S.Store.tells l.store);
}
