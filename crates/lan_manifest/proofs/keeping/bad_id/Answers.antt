use Rattle.std.proofs.Common.{◌≡◌, ◌-◌, ◌^◌, ◌≤◌, ◌∙◌, sym, inl, inr, arith, get_or}
use Rattle.std.specs.Ordering.{nat_cmp}
use Rattle.std.specs.BTreeSet as tree
use Rattle.lan_schema.proofs.Steps.{was_there}
use Rattle.lan_manifest.proofs.Listed.{breaks_at}
use Rattle.lan_manifest.proofs.keeping.bad_id.Goals as goal

pub returns-then-id-clause-some : goal.returns-then-id-clause-some
returns-then-id-clause-some c =
    let fs = c.args.fragments.now in
    breaks_at fs (c.loop-i.i - 1) c.loop-i.i c.index-fragments-i.result (omega arith) (omega (arith, c.loop-i.invariant.within)) (inl (omega (arith, c.if-id.true)))

pub returns-then-not-added-clause-some : goal.returns-then-not-added-clause-some
returns-then-not-added-clause-some c =
    let fs = c.args.fragments.now in
    let id = (get_or fs (c.loop-i.i - 1) c.index-fragments-i.result).id in
    breaks_at fs (c.loop-i.i - 1) c.loop-i.i c.index-fragments-i.result (omega arith) (omega (arith, c.loop-i.invariant.within))
    (inr (sym (c.loop-i.invariant.ids id) ∙ was_there c.in_ok-added.added (tree.contains nat_cmp c.loop-i.ids id) c.in_ok-added.ensures.added c.if-not-added.true))
