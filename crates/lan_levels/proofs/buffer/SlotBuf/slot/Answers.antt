use Rattle.std.proofs.Common.{◌≡◌, ◌∙◌, Some, length, slice_get, ap, sym, subst, ℕ, List}
use Rattle.lan_levels.specs.PlainSlots.{PlainSlot, plain_piece}
use Rattle.lan_levels.specs.Kept.{kept_piece, kept_slot, kept_slots, IsWithin}
use Rattle.lan_levels.proofs.KeptSlots.{within_at, kept_at, same_but_value}
use Rattle.lan_levels.proofs.buffer.SlotBuf.slot.Goals as goal

pub lent-requires : goal.lent-requires
lent-requires c =
    let b = c.self.inside in
    subst (λ (all : List ℕ). IsWithin (length all) c.at-kept.result.now.value) (sym c.as_slice.ensures)
    (within_at (length b.bytes) b.kept c.args.i c.at-kept.result.now c.self.invariant c.at-kept.ensures)

pub returns : goal.returns
returns c =
    let b = c.self.inside in
    let kept = c.at-kept.result.now in
    let at : slice_get (kept_slots b.bytes b.kept) c.args.i ≡ Some (kept_slot b.bytes kept) = kept_at b.bytes b.kept c.args.i kept c.at-kept.ensures in
    let value : plain_piece c.lent.result ≡ kept_piece b.bytes kept.value = c.lent.ensures ∙ ap (λ (all : List ℕ). kept_piece all kept.value) c.as_slice.ensures in
    ap (λ (xs : List PlainSlot). slice_get xs c.args.i) (sym c.self.view_is)
    ∙ at
    ∙ ap (λ (x : PlainSlot). Some x) (sym (same_but_value kept.rep kept.state (plain_piece c.lent.result) (kept_piece b.bytes kept.value) value))
