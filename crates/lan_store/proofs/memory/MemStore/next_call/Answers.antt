use Rattle.std.proofs.Common.{◌∙◌, ap}
use Rattle.std.specs.Prelude.{◌==◌, find}
use Rattle.lan_store.proofs.memory.MemStore.next_call.Goals as goal

pub returns-clause-plan : goal.returns-clause-plan
returns-clause-plan c = c.plan_of.ensures ∙ ap (find (λ p. p.call == c.saturating_add-self.result)) c.as_slice.ensures ∙ ap (λ n. find (λ p. p.call == n) c.args.self.now.plans) c.saturating_add-self.ensures
