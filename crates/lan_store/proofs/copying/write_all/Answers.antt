use Rattle.std.proofs.Common.{rules}
use Rattle.lan_store.proofs.Told.{and_then_bytes-more}
use Rattle.lan_store.proofs.copying.write_all.Goals as goal

pub loop-at-preserved : goal.loop-at-preserved
loop-at-preserved g c = record {
  within = search rules;
  held = and_then_bytes-more _ _ _ c.args.text.now c.loop-at.at c.in_ok-at.field-0 c.loop-at.invariant.held c.in_ok-at.ensures.more;
  later = search rules;
}
