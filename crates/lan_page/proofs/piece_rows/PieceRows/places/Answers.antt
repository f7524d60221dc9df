use Rattle.std.proofs.Common.{◌≡◌, ◌+◌, ◌-◌, ap, subst, arith}
use Rattle.lan_page.specs.PieceRows.{PlainRows}
use Rattle.lan_page.proofs.RowPlaces.{place, place_alone, before_less}
use Rattle.lan_page.proofs.piece_rows.PieceRows.places.Goals as goal

pub returns-then-self-eq0-clause-begin : goal.returns-then-self-eq0-clause-begin
returns-then-self-eq0-clause-begin c =
    let p = c.self.inside in
    let end = ap (λ (r : PlainRows). r.past) c.self.view_is in
    subst (λ (r : PlainRows). c.args.row - p.from ≡ place r.lists (c.args.row - r.from) r.slots) c.self.view_is (place_alone p.lists (p.past - p.from) (c.args.row - p.from) p.slots c.self.invariant.are c.if-self-eq0.true (omega arith))

pub returns-then-self-eq0-clause-end : goal.returns-then-self-eq0-clause-end
returns-then-self-eq0-clause-end c =
    let p = c.self.inside in
    let end = ap (λ (r : PlainRows). r.past) c.self.view_is in
    let at = place_alone p.lists (p.past - p.from) (c.args.row - p.from) p.slots c.self.invariant.are c.if-self-eq0.true (omega arith) in
    subst (λ (r : PlainRows). c.row_end.result ≡ place r.lists (c.args.row - r.from + 1) r.slots) c.self.view_is (c.row_end.ensures (c.args.row - p.from) at)

pub row_end-end-requires : goal.row_end-end-requires
row_end-end-requires c =
    let p = c.self.inside in
    let i = c.rows.invariant in
    let end = ap (λ (r : PlainRows). r.past) c.self.view_is in
    let count = c.self.invariant.are.starts_are in
    let behind = i.behind in
    let is = i.end_is in
    let less = before_less p.lists (c.rows.at - p.from + 1) p.slots (omega arith) in
    omega arith
