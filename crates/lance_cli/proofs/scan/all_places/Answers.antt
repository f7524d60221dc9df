use Rattle.std.proofs.Common.{◌<◌, subst, sym}
use Rattle.std.specs.Prelude.{All}
use Rattle.std.proofs.lemmas.List.Elements.{All-push}
use Rattle.lance_cli.proofs.ColumnPlaces.{range_more}
use Rattle.lance_cli.proofs.scan.all_places.Goals as goal

pub loop-place-preserved : goal.loop-place-preserved
loop-place-preserved c = record {
  all = range_more c.loop-place.place c.loop-place.places c.push.new.self c.loop-place.invariant.all c.in_ok-push.ensures.ok;
  there = subst (All (λ place. place < c.args.count)) (sym c.in_ok-push.ensures.ok) (All-push (λ place. place < c.args.count) c.loop-place.places c.loop-place.place c.loop-place.invariant.there c.loop-place-test.true);
}
