use Rattle.std.proofs.Common.{arith}
use Rattle.lan_page.proofs.PlaceLemmas.{part_is, part_same}
use Rattle.lan_page.proofs.places.Places.part.Goals as goal

pub returns-clause-exact : goal.returns-clause-exact
returns-clause-exact c =
    let p = c.args.self.now in
    λ h. part_is p.known p.rows p.content c.args.row c.args.past _ h c.requires.row c.requires.past c.at-at.ensures (omega arith)

pub returns-clause-same : goal.returns-clause-same
returns-clause-same c =
    let p = c.args.self.now in
    λ all le. part_same p.known p.content c.args.row c.args.past _ all c.requires.row c.at-at.ensures (omega arith) le
