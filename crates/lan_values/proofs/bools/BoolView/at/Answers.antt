use Rattle.std.proofs.Common.{arith}
use Rattle.lan_levels.specs.Values.{bools, value_at}
use Rattle.lan_values.proofs.Each.{below_count, got}
use Rattle.lan_values.proofs.bools.BoolView.at.Goals as goal

pub bounds-self-inside-i : goal.bounds-self-inside-i
bounds-self-inside-i c =
    let v = c.self.inside in
    let lt = below_count (value_at bools v.bytes.now) v.count c.args.i c.args.self.now c.self.view_is c.requires in
    let is = c.self.invariant.0 in
    omega arith

pub returns : goal.returns
returns c = let v = c.self.inside in got (value_at bools v.bytes.now) v.count c.args.i c.args.self.now c.self.view_is c.requires
