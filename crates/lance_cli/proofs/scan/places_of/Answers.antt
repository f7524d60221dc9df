use Rattle.std.proofs.Common.{◌<◌, length, map, subst, sym, arith}
use Rattle.std.specs.Prelude.{All}
use Rattle.std.proofs.lemmas.List.Elements.{All-push}
use Rattle.lan_model.specs.PlainTable.{column_of}
use Rattle.lan_model.specs.Take.{places_of}
use Rattle.lance_cli.proofs.ColumnPlaces.{places_more}
use Rattle.lance_cli.proofs.scan.places_of.Goals as goal

pub loop-name-preserved : goal.loop-name-preserved
loop-name-preserved c =
    let columns = map column_of c.args.fields.now in
    let names = c.args.names.now in
    let below : c.loop-name.name-index < length names = omega arith in
    record {
      finds = places_more columns names c.loop-name.name-index c.name-item.result (places_of columns names) c.loop-name.places c.push.new.self c.in-Some.place below c.name-item.is (sym c.in-Some.ensures.finds) c.in_ok-push.ensures.ok c.loop-name.invariant.finds;
      there = subst (All (λ place. place < length c.args.fields.now)) (sym c.in_ok-push.ensures.ok) (All-push (λ place. place < length c.args.fields.now) c.loop-name.places c.in-Some.place c.loop-name.invariant.there c.in-Some.ensures.there);
    }
