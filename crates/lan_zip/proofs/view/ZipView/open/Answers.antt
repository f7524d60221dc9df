use Rattle.std.proofs.Common.{rules, IfErr, ◌<◌, subst, List, ℕ}
use Rattle.std.proofs.lemmas.Result.{MatchResult-weaker}
use Rattle.lan_levels.specs.ZipForm.{PlainForm, form_of}
use Rattle.lan_zip.specs.Form.{plain_form}
use Rattle.lan_levels.specs.ZipSlots.{IsZip, spelled}
use Rattle.lan_zip.specs.Refusals.{Stands}
use Rattle.lan_zip.specs.Walk.{slots_in}
use Rattle.lan_zip.proofs.Rows.{refused, zip_of}
use Rattle.lan_zip.proofs.view.ZipView.open.Goals as goal

pub returns-in_err-count-clause-none : goal.returns-in_err-count-clause-none
returns-in_err-count-clause-none c =
    let all = c.args.view.bytes in
    let cause : IfErr c.from_residual.result (Stands (form_of c.args.shape) c.args.rows all) = search rules in
    let some : 0 < (form_of c.args.shape).lists → 0 < (form_of c.args.shape).word =
    let P : PlainForm → Type 0 = λ f. 0 < f.lists → 0 < f.word in
    subst P c.of-form.ensures.value c.of-form.ensures.is.some in
    MatchResult-weaker c.from_residual.result cause (λ _ h. h) (λ fault h slots z. refused (form_of c.args.shape) c.args.rows all fault slots some h z)

pub returns-clause-ok : goal.returns-clause-ok
returns-clause-ok c =
    let f = plain_form c.of-form.result in
    let all = c.bytes-bytes.result.now in
    let n = c.in_ok-count.count in
    let z = zip_of f c.args.rows n all c.in_ok-count.ensures.ok in
    let there = subst (λ (bs : List ℕ). IsZip f c.args.rows bs (slots_in (spelled f n all))) c.bytes-bytes.ensures.value z in
    subst (λ (g : PlainForm). IsZip g c.args.rows c.args.view.bytes (slots_in (spelled f n all))) c.of-form.ensures.value there
