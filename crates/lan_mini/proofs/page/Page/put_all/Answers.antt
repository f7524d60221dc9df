use Rattle.std.proofs.Common.{◌+◌, arith}
use Rattle.lan_mini.specs.Form.{plain_form}
use Rattle.lan_mini.specs.Building.{CanChunk}
use Rattle.lan_mini.proofs.Ranges.{all_within, range_length}
use Rattle.lan_mini.proofs.PageParts.{built_more}
use Rattle.lan_mini.proofs.page.Page.put_all.Goals as goal

pub next-cut-requires-clause-slots : goal.next-cut-requires-clause-slots
next-cut-requires-clause-slots c =
    let inv = c.loop-at.invariant in
    all_within (CanChunk (plain_form c.args.form.now)) c.args.slots.now c.args.from c.args.to c.loop-at.at c.args.to inv.reached inv.within (omega arith) c.requires.end c.requires.slots

pub put-requires-clause-slots : goal.put-requires-clause-slots
put-requires-clause-slots c =
    let inv = c.loop-at.invariant in
    let at = c.loop-at.at in
    let size = range_length c.args.slots.now at c.args.to inv.within c.requires.end in
    all_within (CanChunk (plain_form c.args.form.now)) c.args.slots.now c.args.from c.args.to at (at + c.next-cut.result.count) inv.reached (omega arith) (omega (arith, c.next-cut.ensures.within)) c.requires.end c.requires.slots

pub loop-at-preserved : goal.loop-at-preserved
loop-at-preserved c =
    let inv = c.loop-at.invariant in
    let at = c.loop-at.at in
    let size = range_length c.args.slots.now at c.args.to inv.within c.requires.end in
    record {
      reached = omega (arith, inv.reached);
      within = omega (arith, c.next-cut.ensures.within);
      built = built_more (plain_form c.args.form.now) c.args.slots.now c.args.from at c.args.to c.next-cut.result c.loop-at.self c.put.new.self inv.within c.requires.end c.next-cut.ensures c.in_ok-put.ensures inv.built;
    }
