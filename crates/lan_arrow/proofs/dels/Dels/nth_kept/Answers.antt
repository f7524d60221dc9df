use Rattle.std.proofs.Common.{◌≤◌, ◌+◌, ℕ, List, length, slice_get, arith, refl, ap, sym, ◌∙◌}
use Rattle.lan_arrow.specs.Kept.{Deleted, kept_below, kept_of}
use Rattle.lan_arrow.proofs.Kept.{kept_at, kept_past}
use Rattle.lan_arrow.proofs.dels.Dels.nth_kept.Goals as goal
use Rattle.lan_arrow.proofs.dels.Dels.nth_kept.Goals.{then-count-self-via-then-count-self, then-count-self-via-else-count-self+then-k-self}

pub returns-then-count-self : goal.returns-then-count-self
returns-then-count-self c =
    let few : c.self.inside.physical ≤ c.args.k + length c.as_slice-rows.result.now = elim c.then-count-self.branch [
      | then-count-self-via-then-count-self w ↦ omega (arith, w.if-count-self)
      | then-count-self-via-else-count-self+then-k-self w ↦ omega (arith, w.if-k-self, w.if-count-self)
    ] in
    let same = ap length c.as_slice-rows.ensures.value in
    kept_past c.self.inside.rows.items c.self.inside.physical c.args.k c.self.invariant.0 c.self.invariant.1 (omega arith)
    ∙ ap (λ (d : Deleted). slice_get (kept_of d) c.args.k) c.self.view_is

pub returns : goal.returns
returns c =
    let value = kept_at c.as_slice-rows.result.now c.self.inside.physical c.args.k (c.args.k + c.loop-low.low) c.loop-low.low
    (rw c.as_slice-rows.ensures.value c.self.invariant.0) refl
    (omega (arith, c.loop-low.invariant.in_order, c.loop-low.invariant.in_range))
    (λ (i : ℕ) h. let g = c.loop-low.invariant.lower i h in omega arith)
    (λ (i : ℕ) h l. let g = c.loop-low.invariant.upper i (omega (arith, c.loop-low-test.false)) l in omega arith)
    (omega (arith, c.if-count-self.false, c.if-k-self.false, c.loop-low.invariant.in_order, c.loop-low.invariant.in_range)) in
    sym value ∙ ap (λ (xs : List ℕ). slice_get (kept_below xs c.self.inside.physical) c.args.k) c.as_slice-rows.ensures.value
    ∙ ap (λ (d : Deleted). slice_get (kept_of d) c.args.k) c.self.view_is
