use Rattle.std.proofs.Common.{◌≡◌, ◌∙◌, ◌+◌, ◌-◌, ◌*◌, ◌^◌, ◌<◌, ◌++◌, ℕ, false, ap, ap₂, subst, sym, arith}
use Rattle.std.proofs.lemmas.Nat.{pow_pos}
use Rattle.std.proofs.lemmas.Result.{on_ok_weaker}
use Rattle.lan_levels.specs.PlainSlots.{plain_slot}
use Rattle.lan_zip.specs.Form.{plain_form}
use Rattle.lan_levels.specs.ZipWritten.{value_bytes}
use Rattle.lan_zip.proofs.Gathering.{number_below, bare_is, slot_appended}
use Rattle.lan_zip.proofs.page.put_slot.Goals as goal

worth : (bits mask rep from from2 from3 def : ℕ) → mask ≡ 2 ^ bits - 1 → from ≡ rep → from2 ≡ mask → from3 ≡ def → from * (from2 + 1) + from3 ≡ rep * 2 ^ bits + def
worth bits mask rep from from2 from3 def m a b d =
    let some = pow_pos bits in
    let e : from2 + 1 ≡ 2 ^ bits = omega arith in
    ap₂ (λ (x y : ℕ). x * y + from3) a e ∙ ap (λ (x : ℕ). rep * 2 ^ bits + x) d

pub put_word-requires-clause-fits : goal.put_word-requires-clause-fits
put_word-requires-clause-fits c =
    let f = c.args.form.now in
    let same = worth f.bits f.mask c.args.slot.rep c.from.result c.from-2.result c.from-3.result c.known_number-def.result c.requires.form.mask c.from.ensures c.from-2.ensures c.from-3.ensures in
    let below = number_below (plain_form f).states c.known_number-def.result (2 ^ f.bits) c.args.slot.state c.known_number-def.ensures c.requires.form.below in
    subst (λ (n : ℕ). n < 2 ^ (8 * f.word)) (sym same) (c.requires.form.room c.args.slot.rep c.known_number-def.result c.requires.slot.rep below)

pub returns : goal.returns
returns c =
    let f = plain_form c.args.form.now in
    let s = plain_slot c.args.slot in
    let n = c.from.result * (c.from-2.result + 1) + c.from-3.result in
    let same = worth f.bits c.args.form.now.mask s.rep c.from.result c.from-2.result c.from-3.result c.known_number-def.result c.requires.form.mask c.from.ensures c.from-2.ensures c.from-3.ensures in
    let bare = bare_is f.layers s.state false c.if-is_bare.ensures in
    on_ok_weaker c.put_value.result
    (λ (e : c.put_value.new.out ≡ c.put_word.new.out ++ value_bytes f.value s.value).
    slot_appended f s c.known_number-def.result n false c.args.out.now c.put_word.new.out c.put_value.new.out c.known_number-def.ensures same bare c.in_ok-put_word.ensures e)
    c.put_value.ensures
