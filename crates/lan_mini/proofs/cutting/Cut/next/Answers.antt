use Rattle.std.proofs.Common.{◌+◌, ◌-◌, ◌≤◌, List, refl, subst, sym, arith, rules}
use Rattle.lan_levels.specs.PlainSlots.{PlainSlot}
use Rattle.lan_levels.specs.Chunks.{small_chunks}
use Rattle.lan_levels.specs.MiniWritten.{CanBeLast}
use Rattle.lan_mini.specs.Form.{plain_form}
use Rattle.lan_mini.specs.Building.{CanChunk, IsTotal, range}
use Rattle.lan_mini.proofs.Ranges.{all_within, range_length, take_range}
use Rattle.lan_mini.proofs.Totals.{joined_total, size_of, cut_front, cut_all}
use Rattle.lan_mini.proofs.cutting.Cut.next.Goals as goal
use Rattle.lan_mini.proofs.cutting.Cut.next.Goals.{then-not-front+then-left-le-MOST_SLOTS+else-chunk_size-le-MOST_BYTES, else-not-front, else-not-front-via-then-not-front+else-left-le-MOST_SLOTS, else-not-front-via-else-not-front}

pub of-later-requires-clause-slots : goal.of-later-requires-clause-slots
of-later-requires-clause-slots c =
    let front = c.greatest-front.ensures in
    let within = front.within in
    let size = range_length c.args.slots.now c.args.from c.args.to (omega arith) c.requires.end in
    all_within (CanChunk (plain_form c.args.form.now)) c.args.slots.now c.args.from c.args.to (c.args.from + c.greatest-front.result.count) c.args.to (omega arith) (omega arith) (omega arith) c.requires.end c.requires.slots

pub returns-then-chunk_size-le-MOST_BYTES : goal.returns-then-chunk_size-le-MOST_BYTES
returns-then-chunk_size-le-MOST_BYTES c =
    let f = plain_form c.args.form.now in
    let xs = c.args.slots.now in
    let from = c.args.from in
    let to = c.args.to in
    let front = c.greatest-front.ensures in
    let n = c.greatest-front.result.count in
    let size = range_length xs from to (omega arith) c.requires.end in
    let within : from + n ≤ to = omega (arith, front.within) in
    let first = subst (λ (ys : List PlainSlot). IsTotal f ys c.greatest-front.result.total) (take_range xs from to n within) front.total in
    let all = joined_total f xs from (from + n) to c.greatest-front.result.total c.of-later.result c.and-all.result (omega arith) within first c.of-later.ensures c.and-all.ensures.values c.and-all.ensures.bytes in
    let is = size_of f xs from to (to - from) c.chunk_size.result c.and-all.result (omega arith) c.requires.end refl all c.chunk_size.ensures in
    cut_all f (range xs from to) (to - from) c.and-all.result (sym size) (omega arith) (omega arith) (omega (arith, c.if-chunk_size-le-MOST_BYTES.true)) all

pub returns : goal.returns
returns c =
    let f = plain_form c.args.form.now in
    let xs = c.args.slots.now in
    let from = c.args.from in
    let to = c.args.to in
    let r = c.greatest-front.result in
    let front = c.greatest-front.ensures in
    let n = r.count in
    let size = range_length xs from to (omega arith) c.requires.end in
    let within : from + n ≤ to = omega (arith, front.within) in
    let first = subst (λ (ys : List PlainSlot). IsTotal f ys r.total) (take_range xs from to n within) front.total in
    let no_last : CanBeLast small_chunks f (range xs from to) → ⊥ = λ last.
    let few = last.few in
    let fits = last.fits in
    elim c.if-not-front.branch [
      | then-not-front+then-left-le-MOST_SLOTS+else-chunk_size-le-MOST_BYTES w ↦
          let all = joined_total f xs from (from + n) to r.total w.of-later.result w.and-all.result (omega arith) within first w.of-later.ensures w.and-all.ensures.values w.and-all.ensures.bytes in
          let is = size_of f xs from to (to - from) w.chunk_size.result w.and-all.result (omega arith) c.requires.end refl all w.chunk_size.ensures in
          omega (arith, w.if-chunk_size-le-MOST_BYTES.false)
      | else-not-front w ↦ elim w.else-not-front.branch [
        | else-not-front-via-then-not-front+else-left-le-MOST_SLOTS v ↦ omega (arith, v.if-left-le-MOST_SLOTS.false)
        | else-not-front-via-else-not-front v ↦ front.stopped (search rules) last
      ]
    ] in
    cut_front f (range xs from to) r.log n r.total r.full front no_last
