use Rattle.std.proofs.Common.{◌≡◌, ◌∙◌, ap, ◌<◌, List, ℕ, arith, get_or, length}
use Rattle.lan_read.proofs.Dealing.{length_left, reader_step}
use Rattle.lan_read.proofs.opened.readers_of.Goals as goal

pub loop-numbers-preserved : goal.loop-numbers-preserved
loop-numbers-preserved c =
    let l = c.loop-numbers in
    let files = c.args.files.now in
    let numbers = c.numbers-item.result in
    let below : l.numbers-index < length files = omega (arith, c.loop-numbers-test.true, ap length c.as_slice-numbers-items.ensures) in
    let item : numbers ≡ get_or files l.numbers-index numbers = c.numbers-item.is ∙ ap (λ (ns : List (List ℕ)). get_or ns l.numbers-index numbers) c.as_slice-numbers-items.ensures in
    record {
      readers = reader_step files l.numbers-index numbers l.opened c.reader_of.new.opened _ l.readers c.push.new.self _ below item c.in_ok-reader_of.ensures.reader c.in_ok-reader_of.ensures.left c.in_ok-push.ensures.ok l.invariant.readers;
      long = ap length c.in_ok-reader_of.ensures.left ∙ length_left numbers l.opened ∙ l.invariant.long;
    }
