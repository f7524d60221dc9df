use Rattle.std.proofs.Common.{◌∙◌, ap, sym, arith}
use Rattle.lan_levels.specs.Runs.{even, run}
use Rattle.lan_levels.specs.Stretch.{Stretch}
use Rattle.lan_page.proofs.Fetched.{cover_alone, even_order}
use Rattle.lan_page.proofs.fetching.even_run.Goals as goal

pub part-requires-clause-order : goal.part-requires-clause-order
part-requires-clause-order c = let o = even_order c.args.width c.args.content c.args.row in omega arith

pub returns-clause-exact : goal.returns-clause-exact
returns-clause-exact c = λ h. c.part.ensures.exact h ∙ sym (cover_alone (run (even c.args.width)) c.args.row)

pub returns-clause-within : goal.returns-clause-within
returns-clause-within c = let e = ap (λ (s : Stretch). s.past) c.part.ensures.stretch in omega arith
