use Rattle.std.proofs.Common.{rules, ◌≡◌, ◌∙◌, ◌%◌, ◌<◌, arith}
use Rattle.lan_values.proofs.BoolBytes.{none_yet, one_more}
use Rattle.lan_values.proofs.bools.put_bytes.Goals as goal

pub loop-i-init : goal.loop-i-init
loop-i-init c = none_yet c.args.values.now c.args.out.now

pub loop-i-preserved : goal.loop-i-preserved
loop-i-preserved c =
    let few : c.from.result < 256 = search rules in
    let same : c.from.result % 256 ≡ c.from.result = omega arith in
    one_more c.loop-i.i _ c.args.values.now c.eight_from.result.now c.args.out.now c.loop-i.out c.num.new.self c.loop-i.invariant c.eight_from.ensures.value (same ∙ c.from.ensures ∙ c.byte_of.ensures.value) c.in_ok-num.ensures.ok
