use Rattle.std.proofs.Common.{arith, rules}
use Rattle.lan_wire.specs.Messages.{is_int32}
use Rattle.lan_wire.proofs.FaultLaws.{breaks}
use Rattle.lan_wire.proofs.FrontVarint.{IsBytes, not_nil}
use Rattle.lan_wire.proofs.Judgement.{judged_none, judged_more, judged_then, judged_else}
use Rattle.lan_wire.proofs.judging.judge_part.Goals as goal

pub loop-rest-init : goal.loop-rest-init
loop-rest-init c = judged_none c.args.bytes.now

pub loop-rest-preserved-then-fit : goal.loop-rest-preserved-then-fit
loop-rest-preserved-then-fit c =
    let fits : IsBytes c.args.bytes.now = λ k. omega (arith, c.type_inv.bytes k) in
    judged_more c.args.bytes.now c.loop-rest.rest.now c.in-Ok.after.now c.in-Ok.value c.loop-rest.fit c.is_int32-fit.result fits c.loop-rest.invariant c.in-Ok.ensures.read
    (judged_then c.loop-rest.fit (is_int32 c.in-Ok.value) c.is_int32-fit.result c.if-fit.true c.is_int32-fit.ensures)

pub loop-rest-preserved : goal.loop-rest-preserved
loop-rest-preserved c =
    let fits : IsBytes c.args.bytes.now = λ k. omega (arith, c.type_inv.bytes k) in
    judged_more c.args.bytes.now c.loop-rest.rest.now c.in-Ok.after.now c.in-Ok.value c.loop-rest.fit c.loop-rest.fit fits c.loop-rest.invariant c.in-Ok.ensures.read
    (judged_else c.loop-rest.fit (is_int32 c.in-Ok.value) c.if-fit.false)

pub returns-in-Err-clause-fault : goal.returns-in-Err-clause-fault
returns-in-Err-clause-fault c =
    let i = c.loop-rest.invariant in
    let rest = c.loop-rest.rest.now in
    (i.0, rest, i.1, i.2, i.3, breaks rest c.in-Err.kind (not_nil rest (search rules)) c.in-Err.ensures.read)
