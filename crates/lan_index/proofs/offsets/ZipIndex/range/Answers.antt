use Rattle.std.proofs.Common.{◌<◌, ap, arith}
use Rattle.lan_levels.specs.Runs.{placed}
use Rattle.lan_index.specs.Refusals.{Offsets}
use Rattle.lan_index.proofs.RunLemmas.{inside}
use Rattle.lan_index.proofs.offsets.ZipIndex.range.Goals as goal

pub returns-clause-within : goal.returns-clause-within
returns-clause-within c =
    let v = c.self.inside in
    let rows = ap (λ (o : Offsets). o.rows) c.self.view_is in
    let content = ap (λ (o : Offsets). o.content) c.self.view_is in
    let less : c.args.row < v.rows = omega (arith, c.requires) in
    let i = inside (placed v.places.now) v.rows v.content c.args.row c.self.invariant.0 less in
    let order = i.order in
    let within = i.within in
    omega (arith, c.place-at.ensures, c.place-past.ensures)
