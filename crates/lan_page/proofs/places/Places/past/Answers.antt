use Rattle.std.proofs.Common.{◌≡◌, ◌+◌, ◌-◌, ◌<◌, ◌≤◌, ◌^◌, max, inl, inr, arith}
use Rattle.lan_levels.specs.Past.{furthest}
use Rattle.lan_page.specs.Places.{known_place}
use Rattle.lan_page.proofs.PlaceLemmas.{places_climb, walk_past}
use Rattle.lan_page.proofs.places.Places.past.Goals as goal

pub returns-then-from-first-clause-exact : goal.returns-then-from-first-clause-exact
returns-then-from-first-clause-exact c =
    let p = c.args.self.now in
    λ h. let w = places_climb p.known p.rows p.content c.args.row h c.requires.row in let order = w.order in let within = w.within in grind arith

pub returns-then-last-next-clause-exact : goal.returns-then-last-next-clause-exact
returns-then-last-next-clause-exact c =
    let p = c.args.self.now in
    λ h. let before : c.rows.past < p.rows = omega arith in let w = places_climb p.known p.rows p.content c.rows.past h before in let order = w.order in let within = w.within in grind arith

pub returns-then-next-from-clause-exact : goal.returns-then-next-from-clause-exact
returns-then-next-from-clause-exact c =
    let p = c.args.self.now in
    let i = c.rows.invariant in
    let ahead = i.ahead in
    let near : c.rows.past < furthest p.rows c.args.row = omega arith in
    let is : c.max-longest.result ≡ max (2 ^ 20) (known_place p.known p.content (c.args.row + 1) - known_place p.known p.content c.args.row) = omega arith in
    let fits : known_place p.known p.content c.rows.past - known_place p.known p.content c.args.row ≤ c.max-longest.result = omega arith in
    let over : c.max-longest.result < known_place p.known p.content (c.rows.past + 1) - known_place p.known p.content c.args.row = omega arith in
    λ h. walk_past p.known p.rows p.content c.args.row c.rows.past c.max-longest.result h c.requires.row ahead (omega arith) is fits (inr (near, over))

pub returns-clause-exact : goal.returns-clause-exact
returns-clause-exact c =
    let p = c.args.self.now in
    let i = c.rows.invariant in
    let ahead = i.ahead in
    let near : c.rows.past ≡ furthest p.rows c.args.row = omega arith in
    let is : c.max-longest.result ≡ max (2 ^ 20) (known_place p.known p.content (c.args.row + 1) - known_place p.known p.content c.args.row) = omega arith in
    let fits : known_place p.known p.content c.rows.past - known_place p.known p.content c.args.row ≤ c.max-longest.result = omega arith in
    λ h. walk_past p.known p.rows p.content c.args.row c.rows.past c.max-longest.result h c.requires.row ahead (omega arith) is fits (inl near)
