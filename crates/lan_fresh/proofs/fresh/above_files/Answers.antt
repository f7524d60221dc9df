use Rattle.std.proofs.Common.{◌≡◌, ◌∙◌, ap, arith}
use Rattle.lan_store.specs.declared.name.Name.{Name}
use Rattle.lan_fresh.specs.Fresh.{above, file_number}
use Rattle.lan_fresh.proofs.Greatest.{found_more, found_done}
use Rattle.lan_fresh.proofs.fresh.above_files.Goals as goal

pub loop-name-preserved : goal.loop-name-preserved
loop-name-preserved c =
    let number : c.above_number.result ≡ above (file_number c.name-item.result.rest) 1 = c.above_number.ensures.fresh ∙ ap (λ path. above (file_number path) 1) c.as_str.ensures.value in
    let more = found_more (λ (name : Name). file_number name.rest) c.args.names.now c.loop-name.name-index c.name-item.result _ c.loop-name.fresh c.loop-name-test.true c.name-item.is c.loop-name.invariant.most in
    record { most = omega (arith, more, number); low = omega arith; high = omega arith }

pub returns-clause-fresh : goal.returns-clause-fresh
returns-clause-fresh c = found_done (λ (name : Name). file_number name.rest) c.args.names.now c.loop-name.name-index _ c.loop-name.fresh c.loop-name-test.false c.loop-name.invariant.low c.loop-name.invariant.most
