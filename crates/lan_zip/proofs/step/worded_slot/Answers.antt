use Rattle.std.proofs.Common.{◌∙◌, ◌/◌, ◌^◌, ℕ, List, Option, ap, drop}
use Rattle.lan_levels.specs.declared.slot.State.{State}
use Rattle.lan_zip.specs.Form.{plain_form}
use Rattle.lan_levels.specs.ZipSlots.{with_state, with_value, slot_value, word_number}
use Rattle.lan_levels.proofs.ZipFirst.{word_cut, word_read}
use Rattle.lan_zip.proofs.step.worded_slot.Goals as goal

pub returns-then-bytes-width : goal.returns-then-bytes-width
returns-then-bytes-width c = word_cut (plain_form c.args.form.now) c.args.bytes.now c.if-bytes-width.true

pub returns-in-None : goal.returns-in-None
returns-in-None c =
    let f = plain_form c.args.form.now in
    let n = c.word_number-number.result in
    let all = c.args.bytes.now in
    ap (λ (o : Option State). with_state f (n / 2 ^ f.bits) o (drop f.word all)) c.in-None.ensures
    ∙ word_read f all n c.if-bytes-width.false (c.word_number-number.ensures ∙ ap word_number c.split_at.ensures.front)

pub returns-in-Some : goal.returns-in-Some
returns-in-Some c =
    let f = plain_form c.args.form.now in
    let n = c.word_number-number.result in
    let all = c.args.bytes.now in
    let s = c.in-Some.state in
    c.with_value.ensures
    ∙ ap (λ (k : ℕ). with_value f (n / 2 ^ k) s (slot_value f s c.split_at.result.1.now)) c.from.ensures
    ∙ ap (λ (bs : List ℕ). with_value f (n / 2 ^ f.bits) s (slot_value f s bs)) c.split_at.ensures.back
    ∙ ap (λ (o : Option State). with_state f (n / 2 ^ f.bits) o (drop f.word all)) c.in-Some.ensures
    ∙ word_read f all n c.if-bytes-width.false (c.word_number-number.ensures ∙ ap word_number c.split_at.ensures.front)
