use Rattle.std.proofs.Common.{subst, sym, List, ℕ}
use Rattle.lan_levels.specs.Values.{variable, IsBuffer, values_of, ValuesOf}
use Rattle.lan_values.proofs.Each.{values_are}
use Rattle.lan_values.proofs.variable.VarView.open.Goals as goal

pub returns-clause-ok : goal.returns-clause-ok
returns-clause-ok c =
    let all = c.args.view.bytes in
    let h : IsBuffer variable c.args.n all = subst (IsBuffer variable c.args.n) c.bytes-bytes.ensures.value c.in_ok-check_offsets.ensures.ok in
    subst (λ (bs : List ℕ). ValuesOf variable c.args.n all (values_of variable c.args.n bs)) (sym c.bytes-bytes.ensures.value) (values_are variable c.args.n all h)
