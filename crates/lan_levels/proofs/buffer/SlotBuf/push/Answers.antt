use Rattle.std.proofs.Common.{◌≡◌, ◌∙◌, ◌++◌, ◌∷◌, [], length, ap, sym, subst}
use Rattle.std.proofs.lemmas.Result.{on_ok_weaker, on_err_weaker}
use Rattle.lan_levels.specs.declared.buffer.Kept.{Kept}
use Rattle.lan_levels.specs.PlainSlots.{plain_piece}
use Rattle.lan_levels.specs.Kept.{kept_slots, AreWithin}
use Rattle.lan_levels.proofs.KeptSlots.{still_within, pushed_within, kept_same, pushed, either}
use Rattle.lan_levels.proofs.buffer.SlotBuf.push.Goals as goal

pub invariant_of-self-2 : goal.invariant_of-self-2
invariant_of-self-2 c =
    let b = c.self.inside in
    let s : Kept = record { rep = c.args.slot.rep; state = c.args.slot.state; value = c.in_ok-value.value } in
    let piece = plain_piece c.args.slot.value in
    either c.push.result (c.push.new.self ≡ b.kept ++ s ∷ []) (c.push.new.self ≡ b.kept) (AreWithin (length c.keep.new.bytes) c.push.new.self) c.push.ensures.ok c.push.ensures.err
    (λ e. pushed_within b.bytes c.keep.new.bytes piece b.kept c.push.new.self s c.in_ok-value.ensures.ok c.self.invariant e)
    (λ e. subst (AreWithin (length c.keep.new.bytes)) (sym e) (still_within b.bytes c.keep.new.bytes piece c.in_ok-value.value b.kept c.in_ok-value.ensures.ok c.self.invariant))

pub returns-clause-ok : goal.returns-clause-ok
returns-clause-ok c =
    let b = c.self.inside in
    let s : Kept = record { rep = c.args.slot.rep; state = c.args.slot.state; value = c.in_ok-value.value } in
    on_ok_weaker c.push.result
    (λ (e : c.push.new.self ≡ b.kept ++ s ∷ []).
    pushed b.bytes c.keep.new.bytes (plain_piece c.args.slot.value) b.kept c.push.new.self s c.args.self.now c.in_ok-value.ensures.ok c.self.invariant c.self.view_is e)
    c.push.ensures.ok

pub returns-clause-err : goal.returns-clause-err
returns-clause-err c =
    let b = c.self.inside in
    on_err_weaker c.push.result
    (λ (e : c.push.new.self ≡ b.kept).
    ap (kept_slots c.keep.new.bytes) e
    ∙ kept_same b.bytes c.keep.new.bytes (plain_piece c.args.slot.value) c.in_ok-value.value b.kept c.in_ok-value.ensures.ok c.self.invariant
    ∙ c.self.view_is)
    c.push.ensures.err
