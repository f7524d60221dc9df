use Rattle.std.proofs.Common.{◌∙◌}
use Rattle.std.proofs.lemmas.Result.{err_from_is_err_and}
use Rattle.lan_read.specs.Failures.{unread_failure}
use Rattle.lan_read.proofs.ScanCalls.{gave_stays, gives_then, looks_then, spends_next}
use Rattle.lan_read.proofs.scan.Scan.give.Goals as goal

pub returns-clause-looked : goal.returns-clause-looked
returns-clause-looked g c = looks_then (unread_failure c.read.result) _ _ _ c.in_ok-open.ensures.looked c.read.ensures.looked

pub returns-clause-gives : goal.returns-clause-gives
returns-clause-gives g c = λ all told given has.
    let opened = c.in_ok-open.ensures in
    gives_then all c.args.self.now c.open.new.self c.read.new.self given c.read.result opened.stays.same
    (c.read.ensures.gives all (opened.looked.1.kept ∙ told) given (gave_stays all c.args.self.now c.open.new.self given opened.stays has))

pub returns-in_err-open-clause-spends : goal.returns-in_err-open-clause-spends
returns-in_err-open-clause-spends g c = λ all told due is.
    let p = err_from_is_err_and c.from_residual.result c.from_residual.ensures.1 in
    rw p.1 (c.in_err-open.ensures.spends all told due is)

pub returns-clause-spends : goal.returns-clause-spends
returns-clause-spends g c = λ all told due is.
    let opened = c.in_ok-open.ensures in
    spends_next all c.open.new.self c.read.new.self due c.in_ok-open.field-0 c.read.result _ _ _ (opened.spends all told due is) (λ left d. c.read.ensures.spends all (opened.looked.1.kept ∙ told) left d)
