use Rattle.std.proofs.Common.{subst, sym}
use Rattle.lan_store.specs.Objects.{AreDistinct}
use Rattle.lan_store.proofs.Distinct.{distinct_take}
use Rattle.lan_store.proofs.shelf.Shelf.cut.Goals as goal

pub invariant_of-self : goal.invariant_of-self
invariant_of-self c = record {
  distinct = subst AreDistinct (sym c.truncate.ensures) (distinct_take c.args.len c.args.self.now.objects c.args.self.now.distinct);
}
