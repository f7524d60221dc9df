use Rattle.std.proofs.Common.{◌≡◌, ◌*◌, ◌^◌, ◌<◌, ℕ, length, refl, arith}
use Rattle.lan_levels.specs.Codes.{states_from}
use Rattle.lan_zip.specs.declared.form.Form.{Form}
use Rattle.lan_levels.specs.declared.shape.ValueForm.TheVariants as value
use Rattle.lan_zip.specs.Form.{plain_form}
use Rattle.lan_zip.proofs.Fixed.{AreFixed, fixed_listed, fixed_more, fixed_stops}
use Rattle.lan_zip.proofs.view.fixed_count.Goals as goal
use Rattle.lan_zip.proofs.view.fixed_count.Goals.{in_default-via-in-Some-2+else-all-length-2, in_default-via-in_default}

fixed : (form : Form) (width : ℕ) → form.word ≡ 0 → form.value ≡ value.Fixed width → AreFixed (plain_form form) width
fixed form width w v = record { later = states_from form.codes.now 0; states = refl; word = w; value = v }

past : (n length : ℕ) → length < 2 ^ 64 → (n < 2 ^ 64 → ⊥) → length < n
past n length few h = omega arith

pub returns-in-Some-clause-ok : goal.returns-in-Some-clause-ok
returns-in-Some-clause-ok c =
    let form = c.args.form.now in
    let whole : c.args.rows * c.args.width ≡ length c.args.bytes.now = omega (arith, c.in-Some.ensures, c.if-all-length.true) in
    fixed_listed (plain_form form) c.args.width c.args.rows c.args.bytes.now (fixed form c.args.width c.requires.word c.requires.value) c.requires.single whole

pub returns-in-Some-2-clause-cause : goal.returns-in-Some-2-clause-cause
returns-in-Some-2-clause-cause c =
    let form = c.args.form.now in
    let less : c.args.rows * c.args.width < length c.args.bytes.now = omega (arith, c.in-Some-2.ensures, c.if-all-length-2.true) in
    fixed_more (plain_form form) c.args.width c.args.rows c.args.bytes.now (fixed form c.args.width c.requires.word c.requires.value) c.requires.single less

pub returns-in_default-clause-cause : goal.returns-in_default-clause-cause
returns-in_default-clause-cause c =
    let form = c.args.form.now in
    let greater : length c.args.bytes.now < c.args.rows * c.args.width =
    elim c.in_default.branch [
      | in_default-via-in-Some-2+else-all-length-2 w ↦ omega (arith, w.in-Some-2.ensures, w.if-all-length.false, w.if-all-length-2.false)
      | in_default-via-in_default w ↦ past (c.args.rows * c.args.width) (length c.args.bytes.now) c.requires.bytes (λ lt. w.in_default.ensures lt)
    ] in
    fixed_stops (plain_form form) c.args.width c.args.rows c.args.bytes.now (fixed form c.args.width c.requires.word c.requires.value) c.requires.single greater
