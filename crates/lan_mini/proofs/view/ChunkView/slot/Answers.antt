use Rattle.std.proofs.Common.{◌≡◌, ◌∙◌, ℕ, length, drop, ap, sym, arith}
use Rattle.std.proofs.lemmas.List.{length-drop}
use Rattle.lan_levels.specs.PlainSlots.{PlainSlot, plain_slot}
use Rattle.lan_mini.proofs.Steps.{one_further, first_of}
use Rattle.lan_mini.proofs.view.ChunkView.slot.Goals as goal

pub loop-k-preserved : goal.loop-k-preserved
loop-k-preserved c = one_further c.next-passed.result c.args.self.now c.loop-k.k c.loop-k.walk c.next-passed.new.self c.loop-k.invariant c.next-passed.ensures.some c.next-passed.ensures.none

pub unreachable-requires : goal.unreachable-requires
unreachable-requires c =
    let k : c.loop-k.k ≡ c.args.i = omega arith in
    let none = ap (length {A = PlainSlot}) (sym c.loop-k.invariant ∙ c.in-None.ensures.none.0) in
    omega (arith, length-drop c.loop-k.k c.args.self.now, none)

pub returns : goal.returns
returns c =
    let k : c.loop-k.k ≡ c.args.i = omega arith in
    first_of c.args.self.now c.args.i (plain_slot c.in-Some.slot) c.next.new.self (ap (λ (j : ℕ). drop j c.args.self.now) (sym k) ∙ sym c.loop-k.invariant ∙ c.in-Some.ensures.some)
