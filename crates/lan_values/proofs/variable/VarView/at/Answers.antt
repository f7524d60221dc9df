use Rattle.std.proofs.Common.{◌-◌, arith, ◌∙◌, ap, ap₂, sym, Some, List, ℕ, take, drop}
use Rattle.lan_levels.specs.PlainSlots.{bytes}
use Rattle.lan_levels.specs.Values.{variable, value_at}
use Rattle.lan_values.proofs.Each.{below_count, got}
use Rattle.lan_values.proofs.Offsets.{around}
use Rattle.lan_values.proofs.variable.VarView.at.Goals as goal

pub offset-at-requires : goal.offset-at-requires
offset-at-requires c =
    let v = c.self.inside in
    let lt = below_count (value_at variable v.bytes.now) v.count c.args.i c.args.self.now c.self.view_is c.requires in
    let room = (around v.bytes.now v.count c.args.i c.self.invariant.0 lt).room in
    omega arith

pub overflow_add-i : goal.overflow_add-i
overflow_add-i c =
    let v = c.self.inside in
    let lt = below_count (value_at variable v.bytes.now) v.count c.args.i c.args.self.now c.self.view_is c.requires in
    let room = (around v.bytes.now v.count c.args.i c.self.invariant.0 lt).room in
    let few = c.self.invariant.1 in
    omega arith

pub offset-past-requires : goal.offset-past-requires
offset-past-requires c =
    let v = c.self.inside in
    let lt = below_count (value_at variable v.bytes.now) v.count c.args.i c.args.self.now c.self.view_is c.requires in
    let room = (around v.bytes.now v.count c.args.i c.self.invariant.0 lt).room in
    omega arith

pub split_at-requires : goal.split_at-requires
split_at-requires c =
    let v = c.self.inside in
    let lt = below_count (value_at variable v.bytes.now) v.count c.args.i c.args.self.now c.self.view_is c.requires in
    let a = around v.bytes.now v.count c.args.i c.self.invariant.0 lt in
    omega (arith, a.rise, a.end, c.offset-at.ensures.value)

pub overflow_sub-past : goal.overflow_sub-past
overflow_sub-past c =
    let v = c.self.inside in
    let lt = below_count (value_at variable v.bytes.now) v.count c.args.i c.args.self.now c.self.view_is c.requires in
    let a = around v.bytes.now v.count c.args.i c.self.invariant.0 lt in
    omega (arith, a.rise, c.offset-at.ensures.value, c.offset-past.ensures.value)

pub split_at-requires-2 : goal.split_at-requires-2
split_at-requires-2 c =
    let v = c.self.inside in
    let lt = below_count (value_at variable v.bytes.now) v.count c.args.i c.args.self.now c.self.view_is c.requires in
    let a = around v.bytes.now v.count c.args.i c.self.invariant.0 lt in
    omega (arith, a.rise, a.end, c.offset-at.ensures.value, c.offset-past.ensures.value, c.split_at.ensures.back_len)

pub returns : goal.returns
returns c =
    let v = c.self.inside in
    let all = v.bytes.now in
    got (value_at variable all) v.count c.args.i c.args.self.now c.self.view_is c.requires
    ∙ ap₂ (λ (at past : ℕ). Some (bytes (take (past - at) (drop at all)))) (sym c.offset-at.ensures.value) (sym c.offset-past.ensures.value)
    ∙ ap (λ (bs : List ℕ). Some (bytes bs)) (sym (c.split_at-2.ensures.front ∙ ap (take (c.offset-past.result - c.offset-at.result)) c.split_at.ensures.back))
