use Rattle.std.proofs.Common.{refl, sym, inl, inr}
use Rattle.std.proofs.lemmas.Result.{err_from_is_err_and}
use Rattle.lan_file.specs.Heads.{pick_of}
use Rattle.lan_file.proofs.KeptPicks.{keep_more, keep_all}
use Rattle.lan_file.proofs.Picked.{picked_more, picked_all}
use Rattle.lan_file.proofs.TablesRead.{contains_map}
use Rattle.lan_file.proofs.head.read_picks.Goals as goal

pub loop-pick-preserved : goal.loop-pick-preserved
loop-pick-preserved c = record {
  picked = λ bytes is.
      picked_more bytes c.args.rows c.args.picks.now c.loop-pick.pick-index c.pick-item.result c.loop-pick.columns _ c.in_ok-read_pick.field-0 c.loop-pick-test.true c.pick-item.is c.in_ok-push.ensures.ok (c.loop-pick.invariant.picked bytes is) (c.in_ok-read_pick.ensures.answer bytes is);
  keeps = keep_more c.args.rows c.args.picks.now c.loop-pick.pick-index c.pick-item.result c.loop-pick.columns _ c.in_ok-read_pick.field-0 c.loop-pick-test.true c.pick-item.is c.in_ok-push.ensures.ok c.loop-pick.invariant.keeps c.in_ok-read_pick.ensures.keeps;
}

pub returns-in_err-columns-clause-answer : goal.returns-in_err-columns-clause-answer
returns-in_err-columns-clause-answer c = λ bytes is.
    let p = err_from_is_err_and c.from_residual.result c.from_residual.ensures.1 in rw (p.1, p.2) (inl refl)

pub returns-in_err-read_pick-clause-answer : goal.returns-in_err-read_pick-clause-answer
returns-in_err-read_pick-clause-answer c = λ bytes is.
    let p = err_from_is_err_and c.from_residual-in_err-read_pick.result c.from_residual-in_err-read_pick.ensures.1 in
    let asked = contains_map c.args.picks.now c.pick-item.result (c.loop-pick.pick-index, c.loop-pick-test.true, sym c.pick-item.is) in
    rw (p.1, p.2) (inr (record { pick = pick_of c.pick-item.result; asked = asked; judged = c.in_err-read_pick.ensures.answer bytes is }))

pub returns-in_err-push-clause-answer : goal.returns-in_err-push-clause-answer
returns-in_err-push-clause-answer c = λ bytes is.
    let p = err_from_is_err_and c.from_residual-in_err-push.result c.from_residual-in_err-push.ensures.1 in rw (p.1, p.2) (inl refl)

pub returns-clause-answer : goal.returns-clause-answer
returns-clause-answer c = λ bytes is.
    picked_all bytes c.args.rows c.args.picks.now c.loop-pick.pick-index c.loop-pick.columns c.loop-pick-test.false (c.loop-pick.invariant.picked bytes is)

pub returns-clause-keeps : goal.returns-clause-keeps
returns-clause-keeps c = keep_all c.args.rows c.args.picks.now c.loop-pick.pick-index c.loop-pick.columns c.loop-pick-test.false c.loop-pick.invariant.keeps
