use Rattle.std.proofs.Common.{sym, inl, inr}
use Rattle.std.proofs.lemmas.Result.{IfErr-weaker}
use Rattle.lan_meta.specs.ValueMessages.{FailsVariable, FailsValues}
use Rattle.lan_meta.proofs.values.read_values.Goals as goal

pub returns-in-Some-part-clause-fault : goal.returns-in-Some-part-clause-fault
returns-in-Some-part-clause-fault c =
    IfErr-weaker c.read_variable.result (FailsVariable c.in-Some-part.part) (FailsValues c.args.message)
    (λ error fails. inr (record { items = c.in_ok-said.said.items; reads = c.in_ok-said.ensures.ok; said = inr (inr (inl (record { part = c.in-Some-part.part; said = sym c.in-Some-part.ensures; holds = fails }))) }))
    c.read_variable.ensures.fault
