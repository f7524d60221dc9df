use Rattle.std.proofs.Common.{◌≡◌, ℕ, false, length, nat_lt, ◌∙◌, ap, arith}
use Rattle.std.proofs.lemmas.Grind.{common_steps}
use Rattle.lan_arrow.specs.Kept.{Deleted}
use Rattle.lan_arrow.proofs.Kept.{found, not_found}
use Rattle.lan_arrow.proofs.dels.Dels.has.Goals as goal

pub returns-then-low-rows : goal.returns-then-low-rows
returns-then-low-rows c =
    let same : c.as_slice-rows.result.now ≡ c.args.self.now.rows = c.as_slice-rows.ensures.value ∙ ap (λ (d : Deleted). d.rows) c.self.view_is in
    found c.as_slice-rows.result.now c.args.self.now.rows c.args.row c.loop-low.low same
    (rw c.as_slice-rows.ensures.value c.self.invariant.0) c.loop-low.invariant.lower
    (λ (i : ℕ) h l. c.loop-low.invariant.upper i (omega (arith, c.loop-low-test.false)) l) c.if-low-rows.true

pub returns-else-low-rows : goal.returns-else-low-rows
returns-else-low-rows c =
    let same : c.as_slice-rows.result.now ≡ c.args.self.now.rows = c.as_slice-rows.ensures.value ∙ ap (λ (d : Deleted). d.rows) c.self.view_is in
    let past : nat_lt c.loop-low.low (length c.as_slice-rows.result.now) ≡ false = grind (arith, common_steps) in
    past ∙ not_found c.as_slice-rows.result.now c.args.self.now.rows c.args.row c.loop-low.low same
    c.loop-low.invariant.lower (omega (arith, c.if-low-rows.false))
