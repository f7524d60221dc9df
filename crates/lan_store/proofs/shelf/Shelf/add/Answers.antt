use Rattle.std.proofs.Common.{◌≡◌, ◌∙◌, ap}
use Rattle.std.specs.Prelude.{None}
use Rattle.lan_store.specs.Objects.{object}
use Rattle.lan_store.proofs.Distinct.{distinct_after}
use Rattle.lan_store.proofs.shelf.Shelf.add.Goals as goal

pub invariant_of-self : goal.invariant_of-self
invariant_of-self c = record {
  distinct =
      let none : object c.args.self.now.objects c.in_ok-copy.field-0 ≡ None = ap (object c.args.self.now.objects) c.in_ok-copy.ensures ∙ c.requires in
      distinct_after c.args.self.now.objects c.push.new.self (record { name = c.in_ok-copy.field-0; bytes = c.in_ok-from_slice.field-0 }) c.push.result c.args.self.now.distinct none c.push.ensures.ok c.push.ensures.err;
}
