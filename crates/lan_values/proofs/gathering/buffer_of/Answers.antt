use Rattle.std.proofs.Common.{rules, ◌∙◌, ◌<◌, length, arith}
use Rattle.lan_levels.specs.BuiltValues.{four_bytes}
use Rattle.lan_values.proofs.Ends.{sum_more, ends_more, all_ends}
use Rattle.lan_values.proofs.gathering.buffer_of.Goals as goal

pub loop-length-init : goal.loop-length-init
unfolding four_bytes
loop-length-init c = record { room = search rules; spelled = search rules }

pub loop-length-preserved : goal.loop-length-preserved
unfolding four_bytes
loop-length-preserved c =
    let ns = c.args.lengths.now in
    let i = c.loop-length.length-index in
    let lt : i < length ns = omega arith in
    let room = c.loop-length.invariant.room in
    let more = sum_more ns i lt in
    record {
      room = omega arith;
      spelled = ends_more c.loop-length.end i ns c.loop-length.all c.num-in-loop-length.new.self _ lt c.in_ok-num-2.ensures.ok c.loop-length.invariant.spelled;
    }

pub returns : goal.returns
unfolding four_bytes
returns c =
    all_ends c.loop-length.end c.loop-length.length-index c.args.lengths.now c.args.bytes.now c.loop-length.all c.finish.result.items c.requires.whole (omega arith) c.loop-length.invariant.spelled
    (c.finish.ensures ∙ c.in_ok-bytes.ensures.ok)
