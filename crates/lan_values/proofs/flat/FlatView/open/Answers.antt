use Rattle.std.proofs.Common.{rules, subst, sym, List, ℕ}
use Rattle.lan_levels.specs.Values.{flat, IsBuffer, values_of, ValuesOf}
use Rattle.lan_values.proofs.Each.{values_are}
use Rattle.lan_values.proofs.flat.FlatView.open.Goals as goal

pub returns-clause-ok : goal.returns-clause-ok
returns-clause-ok c =
    let all = c.args.view.bytes in
    let h : IsBuffer (flat c.args.width) c.args.n all = search rules in
    subst (λ (bs : List ℕ). ValuesOf (flat c.args.width) c.args.n all (values_of (flat c.args.width) c.args.n bs)) (sym c.bytes.ensures.value) (values_are (flat c.args.width) c.args.n all h)
