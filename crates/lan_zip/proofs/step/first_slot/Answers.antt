use Rattle.std.proofs.Common.{◌∙◌, refl}
use Rattle.lan_levels.specs.Codes.{states_from}
use Rattle.lan_zip.specs.Form.{plain_form}
use Rattle.lan_levels.proofs.ZipFirst.{wordless}
use Rattle.lan_zip.proofs.step.first_slot.Goals as goal

pub returns-then-form-eq0 : goal.returns-then-form-eq0
returns-then-form-eq0 c =
    let form = c.args.form.now in
    c.with_value.ensures ∙ wordless (plain_form form) (states_from form.codes.now 0) c.args.bytes.now c.if-form-eq0.true refl
