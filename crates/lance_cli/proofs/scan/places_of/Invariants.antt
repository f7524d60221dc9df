use Rattle.std.proofs.Common.{◌≡◌, ◌<◌, length, drop, map}
use Rattle.std.specs.Prelude.{All}
use Rattle.lan_model.specs.PlainTable.{column_of}
use Rattle.lan_model.specs.Take.{places_of}
use Rattle.lance_cli.proofs.ColumnPlaces.{behind}
use Rattle.lance_cli.proofs.scan.places_of.Given as goal

abbrev pub invariant-loop-name : goal.invariant-loop-name
invariant-loop-name l = record {
  finds : places_of (map column_of l.fields) l.names ≡ behind l.places (places_of (map column_of l.fields) (drop l.name-index l.names));
  there : All (λ place. place < length l.fields) l.places;
}
