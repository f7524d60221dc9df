use Rattle.std.proofs.Common.{◌≡◌, ◌∙◌, ◌+◌, ◌<◌, ◌∷◌, ℕ, length, drop, ap₂, sym, arith}
use Rattle.lan_levels.specs.PlainSlots.{PlainSlot}
use Rattle.lan_levels.specs.ChunkSlots.{woven}
use Rattle.lan_mini.specs.Form.{plain_form}
use Rattle.lan_mini.specs.Cutting.{reps_of, defs_of, pieces_of}
use Rattle.lan_mini.proofs.Weaving.{woven_at, woven_end, few_values}
use Rattle.lan_mini.proofs.view.ChunkSlots.next.Goals as goal

pub returns-then-self-clause-none : goal.returns-then-self-clause-none
returns-then-self-clause-none c =
    let v = c.self.inside in
    let p = v.parts in
    let inv = c.self.invariant.parts in
    let e : v.given ≡ p.count = omega arith in
    let none = sym c.self.view_is ∙ woven_end (plain_form p.form) (reps_of p) (drop v.given (defs_of p)) (drop v.values (pieces_of p.values)) v.given (omega (arith, inv.reps)) in
    (none, none)

pub overflow_add-self-2 : goal.overflow_add-self-2
overflow_add-self-2 c =
    let p = c.self.inside.parts in
    let inv = c.self.invariant.parts in
    let few = few_values (plain_form p.form) (defs_of p) in
    omega (arith, c.slot-taken.ensures.few, inv.values, inv.defs, inv.few)

pub returns-clause-some : goal.returns-clause-some
returns-clause-some c =
    let v = c.self.inside in
    let p = v.parts in
    let f = plain_form p.form in
    let inv = c.self.invariant.parts in
    let less : v.given < p.count = omega (arith, c.self.invariant.within) in
    let reps : v.given < length (reps_of p) = omega (arith, inv.reps) in
    let defs : v.given < length (defs_of p) = omega (arith, inv.defs) in
    sym c.self.view_is
    ∙ woven_at f (reps_of p) (defs_of p) (pieces_of p.values) v.given v.values reps defs
    ∙ ap₂ (λ (s : PlainSlot) (w : ℕ). s ∷ woven f (drop (v.given + 1) (reps_of p)) (drop (v.given + 1) (defs_of p)) (drop (v.values + w) (pieces_of p.values))) (sym c.slot-taken.ensures.slot) (sym c.slot-taken.ensures.values)
