use Rattle.lan_store.specs.Budget.{nothing}
use Rattle.lan_store.proofs.LawTerms.{looked_not}
use Rattle.lan_read.proofs.ScanCalls.{all_given, refuses_same, spends_within}
use Rattle.lan_read.proofs.ValuesDue.{spends_not}
use Rattle.lan_read.proofs.scan.Scan.next.Goals as goal

pub returns-then-not-find-clause-looked : goal.returns-then-not-find-clause-looked
returns-then-not-find-clause-looked g c = (nothing, looked_not nothing (g.S.Store.tells c.args.store.now))

pub returns-then-not-find-clause-gives : goal.returns-then-not-find-clause-gives
returns-then-not-find-clause-gives g c = λ all told given has.
    all_given all c.args.self.now c.find.new.self given c.find.ensures.goes.same (c.find.ensures.over c.if-not-find.true) (c.find.ensures.goes.gave all given has)

pub returns-then-not-find-clause-spends : goal.returns-then-not-find-clause-spends
returns-then-not-find-clause-spends g c = λ all told due is.
    let left = c.find.ensures.goes.due all due is in
    (left.0, left.1, spends_not due left.0 (g.S.Store.tells c.args.store.now) left.2)

pub returns-in-Ok-clause-spends : goal.returns-in-Ok-clause-spends
returns-in-Ok-clause-spends g c = λ all told due is.
    let left = c.find.ensures.goes.due all due is in
    let later = c.in-Ok.ensures.spends all told left.0 left.1 in
    (later.0, later.1, spends_within due left.0 later.0 _ _ left.2 later.2)

pub returns-in-Err-clause-gives : goal.returns-in-Err-clause-gives
returns-in-Err-clause-gives g c = λ all told given has.
    refuses_same all c.args.self.now c.find.new.self c.in-Err.fault c.find.ensures.goes.same (c.in-Err.ensures.gives all told given (c.find.ensures.goes.gave all given has))

pub returns-in-Err-clause-spends : goal.returns-in-Err-clause-spends
returns-in-Err-clause-spends g c = λ all told due is.
    let left = c.find.ensures.goes.due all due is in
    spends_within due left.0 nothing _ _ left.2 (c.in-Err.ensures.spends all told left.0 left.1)
