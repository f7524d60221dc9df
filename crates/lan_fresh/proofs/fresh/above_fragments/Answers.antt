use Rattle.std.proofs.Common.{arith}
use Rattle.lan_manifest.specs.declared.manifest.Fragment.{Fragment}
use Rattle.lan_fresh.proofs.Greatest.{number_more, numbers_done}
use Rattle.lan_fresh.proofs.fresh.above_fragments.Goals as goal

pub loop-fragment-preserved : goal.loop-fragment-preserved
loop-fragment-preserved c =
    let more = number_more (λ (f : Fragment). f.id) c.args.fragments.now c.loop-fragment.fragment-index c.fragment-item.result _ c.loop-fragment.fresh c.loop-fragment-test.true c.fragment-item.is c.loop-fragment.invariant in
    omega (arith, more)

pub returns : goal.returns
returns c = numbers_done (λ (f : Fragment). f.id) c.args.fragments.now c.loop-fragment.fragment-index _ c.loop-fragment.fresh c.loop-fragment-test.false c.loop-fragment.invariant
