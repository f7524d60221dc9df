use Rattle.std.proofs.Common.{length, arith, ◌∙◌, ap, sym, Some, List, ℕ, take}
use Rattle.lan_levels.specs.PlainSlots.{bytes}
use Rattle.lan_levels.specs.Values.{flat, value_at}
use Rattle.lan_values.proofs.Each.{below_count, got, flat_room}
use Rattle.lan_values.proofs.flat.FlatView.at.Goals as goal

pub overflow_mul-self-inside : goal.overflow_mul-self-inside
overflow_mul-self-inside c =
    let v = c.self.inside in
    let lt = below_count (value_at (flat v.width) v.bytes.now) v.count c.args.i c.args.self.now c.self.view_is c.requires in
    let room = flat_room v.width v.count c.args.i (length v.bytes.now) c.self.invariant.0 lt in
    let few = c.self.invariant.1 in
    omega arith

pub split_at-requires : goal.split_at-requires
split_at-requires c =
    let v = c.self.inside in
    let lt = below_count (value_at (flat v.width) v.bytes.now) v.count c.args.i c.args.self.now c.self.view_is c.requires in
    let room = flat_room v.width v.count c.args.i (length v.bytes.now) c.self.invariant.0 lt in
    omega arith

pub split_at-requires-2 : goal.split_at-requires-2
split_at-requires-2 c =
    let v = c.self.inside in
    let lt = below_count (value_at (flat v.width) v.bytes.now) v.count c.args.i c.args.self.now c.self.view_is c.requires in
    let room = flat_room v.width v.count c.args.i (length v.bytes.now) c.self.invariant.0 lt in
    omega (arith, c.split_at.ensures.back_len)

pub returns : goal.returns
returns c =
    let v = c.self.inside in
    got (value_at (flat v.width) v.bytes.now) v.count c.args.i c.args.self.now c.self.view_is c.requires
    ∙ ap (λ (bs : List ℕ). Some (bytes bs)) (sym (c.split_at-2.ensures.front ∙ ap (take v.width) c.split_at.ensures.back))
