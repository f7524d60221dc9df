use Rattle.lan_read.proofs.field_reader.seek.Goals as goal

pub returns-in-Ok-clause-spends : goal.returns-in-Ok-clause-spends
returns-in-Ok-clause-spends g c = λ all told later holds. c.in-Ok.ensures.spends all told holds.0 later holds.1

pub returns-in-Err-Outside-clause-spends : goal.returns-in-Err-Outside-clause-spends
returns-in-Err-Outside-clause-spends g c = λ all told later holds. c.in-Err-Outside.ensures.spends all told holds.0 later holds.1

pub returns-in-Err-Store-clause-spends : goal.returns-in-Err-Store-clause-spends
returns-in-Err-Store-clause-spends g c = λ all told later holds. c.in-Err-Store.ensures.spends all told holds.0 later holds.1

pub returns-in-Err-Memory-clause-spends : goal.returns-in-Err-Memory-clause-spends
returns-in-Err-Memory-clause-spends g c = λ all told later holds. c.in-Err-Memory.ensures.spends all told holds.0 later holds.1
