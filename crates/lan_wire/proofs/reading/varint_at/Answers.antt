use Rattle.std.proofs.Common.{◌≡◌, ◌∙◌, ◌%◌, ◌-◌, ◌∷◌, length, ap, arith}
use Rattle.std.proofs.lemmas.Result.{err_from_is_err_and}
use Rattle.lan_wire.proofs.Groups.{group_fits, unit_more, no_group, last_group, next_group}
use Rattle.lan_wire.proofs.reading.varint_at.Goals as goal

pub returns-in_err-byte-clause-read : goal.returns-in_err-byte-clause-read
returns-in_err-byte-clause-read c =
    let p = err_from_is_err_and c.from_residual.result c.from_residual.ensures.1 in
    let ends = c.in_err-byte.ensures.cut in
    rw (p.1, p.2, ends.1) (c.loop.invariant.read ∙ no_group (9 - c.loop.counter) c.loop.low c.loop.unit c.loop.rest.now ends.0)

pub overflow_mul-result : goal.overflow_mul-result
overflow_mul-result c =
    let fits = group_fits c.loop.counter c.loop.unit c.loop.low c.from-group.result c.loop-test.true c.loop.invariant.unit c.loop.invariant.low c.if-group-lt128.true in
    omega (arith, fits.below, fits.fits)

pub overflow_add-result : goal.overflow_add-result
overflow_add-result c =
    let fits = group_fits c.loop.counter c.loop.unit c.loop.low c.from-group.result c.loop-test.true c.loop.invariant.unit c.loop.invariant.low c.if-group-lt128.true in
    omega (arith, fits.below, fits.fits)

pub overflow_mul-low : goal.overflow_mul-low
overflow_mul-low c =
    let fits = group_fits c.loop.counter c.loop.unit c.loop.low (c.from-group.result % 128) c.loop-test.true c.loop.invariant.unit c.loop.invariant.low (omega arith) in
    omega (arith, fits.below, fits.fits)

pub overflow_add-low : goal.overflow_add-low
overflow_add-low c =
    let fits = group_fits c.loop.counter c.loop.unit c.loop.low (c.from-group.result % 128) c.loop-test.true c.loop.invariant.unit c.loop.invariant.low (omega arith) in
    omega (arith, fits.below, fits.fits)

pub overflow_mul-unit : goal.overflow_mul-unit
overflow_mul-unit c =
    let fits = group_fits c.loop.counter c.loop.unit c.loop.low (c.from-group.result % 128) c.loop-test.true c.loop.invariant.unit c.loop.invariant.low (omega arith) in
    omega (arith, fits.below, fits.fits)

pub returns-then-group-lt128-clause-read : goal.returns-then-group-lt128-clause-read
returns-then-group-lt128-clause-read c =
    let split : c.loop.rest.now ≡ c.from-group.result ∷ c.in_ok-byte.after.now = rw c.from-group.ensures c.in_ok-byte.ensures.read in
    c.loop.invariant.read ∙ last_group c.loop.counter c.loop.low c.loop.unit c.from-group.result c.loop.rest.now c.in_ok-byte.after.now c.loop-test.true c.if-group-lt128.true split

pub loop-preserved : goal.loop-preserved
loop-preserved c =
    let split : c.loop.rest.now ≡ c.from-group.result ∷ c.in_ok-byte.after.now = rw c.from-group.ensures c.in_ok-byte.ensures.read in
    let fits = group_fits c.loop.counter c.loop.unit c.loop.low (c.from-group.result % 128) c.loop-test.true c.loop.invariant.unit c.loop.invariant.low (omega arith) in
    record {
      unit = unit_more c.loop.counter c.loop.unit c.loop.invariant.unit;
      low = fits.below;
      shorter = omega (arith, ap length split, c.loop.invariant.shorter);
      read = c.loop.invariant.read ∙ next_group c.loop.counter c.loop.low c.loop.unit c.from-group.result c.loop.rest.now c.in_ok-byte.after.now c.loop-test.true c.if-group-lt128.false split;
    }
