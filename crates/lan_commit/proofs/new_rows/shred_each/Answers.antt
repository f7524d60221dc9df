use Rattle.std.proofs.Common.{◌<◌, ◌+◌, ◌∙◌, length, arith}
use Rattle.std.proofs.lemmas.Grind.{drop_more_same}
use Rattle.std.proofs.lemmas.List.{length-set, drop-set-lt}
use Rattle.lan_model.specs.Plain.{plain_values}
use Rattle.lan_commit.proofs.ShreddedRows.{counted_more, leaf_more}
use Rattle.lan_commit.proofs.new_rows.shred_each.Goals as goal

pub loop-i-preserved : goal.loop-i-preserved
loop-i-preserved c =
    let l = c.loop-i in
    let was = c.args.columns.now in
    let y = c.shred_counted.new.slots in
    let below : l.i < length c.args.leaves.now = c.loop-i-test.true in
    let within : l.i < length l.columns = omega (arith, below, c.requires.paired, l.invariant.long) in
    record {
      long = length-set l.columns l.i y ∙ l.invariant.long;
      rest = drop-set-lt (l.i + 1) l.columns l.i y (omega arith) ∙ drop_more_same l.columns was l.i l.invariant.rest;
      done = leaf_more c.args.leaves.now (plain_values c.args.row.now) was l.columns l.i c.index-leaves-i.result c.at_mut.result.now y _ below c.requires.paired l.invariant.long l.invariant.rest c.at_mut.ensures.value c.index-leaves-i.is c.in_ok-shred_counted.ensures.ok l.invariant.done;
      counted = counted_more l.columns l.i y within c.in_ok-shred_counted.ensures.counted l.invariant.counted;
    }
