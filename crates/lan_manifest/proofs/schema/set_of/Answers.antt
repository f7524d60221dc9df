use Rattle.std.proofs.Common.{◌≡◌, ◌-◌, get_or, w32, arith, rules}
use Rattle.std.specs.Prelude.{pos}
use Rattle.std.specs.Int.{cast_signed, cast_unsigned}
use Rattle.std.specs.Ordering.{int_cmp}
use Rattle.std.specs.BTreeSet as tree
use Rattle.std.proofs.lemmas.Int.{to_z-of_z}
use Rattle.lan_manifest.proofs.Listed.{listed_at}
use Rattle.lan_manifest.proofs.schema.set_of.Goals as goal

pub loop-i-preserved : goal.loop-i-preserved
loop-i-preserved c =
    let ids = c.args.ids.now in
    let i = c.loop-i.i - 1 in
    let z = cast_signed w32 (cast_unsigned w32 (get_or ids i (pos 0))) in
    let is : z ≡ get_or ids i (pos 0) = to_z-of_z w32 (get_or ids i (pos 0)) (search rules) in
    record {
      within = omega (arith, c.loop-i.invariant.within);
      set = listed_at (tree.contains int_cmp c.loop-i.set) (tree.contains int_cmp c.insert.new.self) ids i c.loop-i.i z (omega arith) (omega (arith, c.loop-i.invariant.within)) is c.loop-i.invariant.set c.in_ok-insert.ensures.updates.0;
    }
