use Rattle.std.proofs.Common.{◌≡◌, ◌∙◌, ◌+◌, ◌*◌, ◌<◌, ◌≤◌, inr, ℕ, List, true, false, take, length, ap, subst, sym, arith}
use Rattle.std.proofs.lemmas.Grind.{pow_more}
use Rattle.lan_levels.specs.Chunks.{small_chunks}
use Rattle.lan_levels.specs.PlainSlots.{PlainSlot}
use Rattle.lan_levels.specs.MiniWritten.{chunk_size}
use Rattle.lan_mini.specs.Form.{plain_form}
use Rattle.lan_mini.specs.Building.{CanChunk, IsTotal, range}
use Rattle.lan_mini.proofs.Ranges.{all_within, range_length, take_range}
use Rattle.lan_mini.proofs.Totals.{few_more, joined_total, size_of, most_is, greatest_full, greatest_end, never_last}
use Rattle.lan_mini.proofs.cutting.Front.greatest.Goals as goal

pub of-requires-clause-slots : goal.of-requires-clause-slots
of-requires-clause-slots c =
    let at = c.args.from + c.loop-log.count in
    let last : at + c.loop-log.count ≤ c.args.to = omega arith in
    all_within (CanChunk (plain_form c.args.form.now)) c.args.slots.now c.args.from c.args.to at (at + c.loop-log.count) (omega arith) (omega arith) last c.requires.end c.requires.slots

pub returns-then-chunk_size-gt-MOST_BYTES : goal.returns-then-chunk_size-gt-MOST_BYTES
returns-then-chunk_size-gt-MOST_BYTES c =
    let f = plain_form c.args.form.now in
    let xs = c.args.slots.now in
    let from = c.args.from in
    let to = c.args.to in
    let n = c.loop-log.count in
    let inv = c.loop-log.invariant in
    let last : from + n + n ≤ to = omega arith in
    let twice = joined_total f xs from (from + n) (from + n + n) c.loop-log.total c.of.result c.and-twice.result (omega arith) (omega arith) inv.total c.of.ensures c.and-twice.ensures.values c.and-twice.ensures.bytes in
    let size = size_of f xs from (from + n + n) (2 * n) c.chunk_size.result c.and-twice.result (omega arith) (omega (arith, c.requires.end)) (omega arith) twice c.chunk_size.ensures in
    let place : from + 2 * n ≡ from + n + n = omega arith in
    let front = take_range xs from to (2 * n) (omega arith) ∙ ap (range xs from) place in
    let big : 32768 < chunk_size small_chunks f (range xs from (from + n + n)) = omega (arith, c.if-chunk_size-gt-MOST_BYTES.true) in
    let over : 32768 < chunk_size small_chunks f (take (2 * n) (range xs from to)) = subst (λ (ys : List PlainSlot). 32768 < chunk_size small_chunks f ys) (sym front) big in
    most_is f xs from to c.loop-log.log n c.loop-log.total true (omega arith) c.requires.end inv.small inv.power inv.total inv.fits (greatest_full f (range xs from to) c.loop-log.log n inv.power over) (λ t. never_last f (range xs from to) (2 * n) over)

pub loop-log-preserved : goal.loop-log-preserved
loop-log-preserved c =
    let f = plain_form c.args.form.now in
    let xs = c.args.slots.now in
    let from = c.args.from in
    let to = c.args.to in
    let n = c.loop-log.count in
    let inv = c.loop-log.invariant in
    let last : from + n + n ≤ to = omega arith in
    let twice = joined_total f xs from (from + n) (from + n + n) c.loop-log.total c.of.result c.and-twice.result (omega arith) (omega arith) inv.total c.of.ensures c.and-twice.ensures.values c.and-twice.ensures.bytes in
    let size = size_of f xs from (from + n + n) (2 * n) c.chunk_size.result c.and-twice.result (omega arith) (omega (arith, c.requires.end)) (omega arith) twice c.chunk_size.ensures in
    let place : from + n + n ≡ from + n * 2 = omega arith in
    let fits : chunk_size small_chunks f (range xs from (from + n + n)) ≤ 32768 = omega (arith, c.if-chunk_size-gt-MOST_BYTES.false) in
    let power = pow_more 2 c.loop-log.log in
    record {
      small = omega arith;
      power = omega (arith, inv.power);
      few = few_more c.loop-log.log n inv.power (omega arith);
      within = omega arith;
      total = subst (λ (k : ℕ). IsTotal f (range xs from k) c.and-twice.result) place twice;
      fits = subst (λ (k : ℕ). chunk_size small_chunks f (range xs from k) ≤ 32768) place fits;
    }

pub returns-else-count-to : goal.returns-else-count-to
returns-else-count-to c =
    let f = plain_form c.args.form.now in
    let xs = c.args.slots.now in
    let from = c.args.from in
    let to = c.args.to in
    let n = c.loop-log.count in
    let inv = c.loop-log.invariant in
    let all : length (range xs from to) ≤ 2 * n = omega (arith, range_length xs from to (omega arith) c.requires.end) in
    most_is f xs from to c.loop-log.log n c.loop-log.total false (omega arith) c.requires.end inv.small inv.power inv.total inv.fits (greatest_end f (range xs from to) c.loop-log.log n inv.power (inr all)) (λ t. cc)
