use Rattle.std.proofs.Common.{◌≡◌, ◌∙◌, ap, ◌<◌, List, ℕ, arith, get_or, length}
use Rattle.std.proofs.lemmas.List.{get_or_default, length-set}
use Rattle.lan_read.proofs.Dealing.{deal_step, left_step}
use Rattle.lan_read.proofs.opened.deal.Goals as goal

pub loop-number-preserved : goal.loop-number-preserved
loop-number-preserved c =
    let l = c.loop-number in
    let numbers = c.args.numbers.now in
    let n = get_or c.as_slice-number-items.result.now l.number-index 0 in
    let below : l.number-index < length numbers = omega (arith, c.loop-number-test.true, ap length c.as_slice-number-items.ensures) in
    let item : n ≡ get_or numbers l.number-index n = ap (λ (ns : List ℕ). get_or ns l.number-index 0) c.as_slice-number-items.ensures ∙ get_or_default numbers l.number-index 0 n below in
    let x = c.at_mut.result.now in
    record {
      dealt = deal_step numbers l.number-index n l.opened x c.take_one.new.undealt l.cursors c.take_one.new.cursors _ below item c.at_mut.ensures.value c.in_ok-take_one.ensures.taken c.in_ok-take_one.ensures.left l.invariant.dealt;
      left = left_step numbers l.number-index n l.opened x c.take_one.new.undealt _ below item c.at_mut.ensures.value c.in_ok-take_one.ensures.left l.invariant.left;
      long = length-set l.opened n c.take_one.new.undealt ∙ l.invariant.long;
    }
