use Rattle.std.proofs.Common.{◌≡◌, ◌∙◌, ◌+◌, ◌-◌, ◌≤◌, length, arith}
use Rattle.std.proofs.lemmas.Result.{err_from_is_err_and}
use Rattle.lan_store.specs.Objects.{object}
use Rattle.lan_file.specs.declared.head_fault.HeadReason.TheVariants.{TooShort}
use Rattle.lan_file.specs.Tables.{IsSizeOf}
use Rattle.lan_file.specs.Opening.{IsOpened}
use Rattle.lan_file.specs.Parts.{part}
use Rattle.lan_file.specs.HeadReasons.{HeadStandsIn}
use Rattle.lan_file.proofs.Held.{one, both}
use Rattle.lan_file.proofs.HeadHeld.{both_head_break, piece_breaks, footer_err, footer_judged}
use Rattle.lan_file.proofs.Opened.{judged_ok}
use Rattle.lan_store.specs.Budget.{range}
use Rattle.lan_file.proofs.tables.read_footer.Goals as goal

pub returns-in_err-size-clause-answer : goal.returns-in_err-size-clause-answer
returns-in_err-size-clause-answer g c = λ all told picks.
    let p = err_from_is_err_and c.from_residual.result c.from_residual.ensures.1 in rw (p.1, p.2) (c.in_err-size.ensures.answer all told picks)

pub returns-then-size-lt40-clause-answer : goal.returns-then-size-lt40-clause-answer
returns-then-size-lt40-clause-answer g c = λ all told picks.
    one (object all c.args.name.now) (λ bytes. IsSizeOf bytes c.in_ok-size.size) (λ bytes. HeadStandsIn picks bytes TooShort c.in_ok-size.size) (c.in_ok-size.ensures.answer all told picks) (λ bytes is. (omega (arith, is.1, c.if-size-lt40.true), is.1))

pub returns-in_err-tail-clause-answer : goal.returns-in_err-tail-clause-answer
returns-in_err-tail-clause-answer g c = λ all told picks.
    let p = err_from_is_err_and c.from_residual-in_err-tail.result c.from_residual-in_err-tail.ensures.1 in
    let held = object all c.args.name.now in
    let within = one held (λ bytes. IsSizeOf bytes c.in_ok-size.size) (λ bytes. c.in_ok-size.size - 40 + 40 ≤ length bytes) (c.in_ok-size.ensures.answer all told picks) (λ bytes is. omega (arith, is.1, c.if-size-lt40.false)) in
    rw (p.1, p.2) (piece_breaks picks held (c.in_ok-size.size - 40) 40 c.in_err-tail.field-0.0 within (c.in_err-tail.ensures.answer all (c.object_size.ensures.looked.kept ∙ told)))

pub returns-in_err-footer-clause-answer : goal.returns-in_err-footer-clause-answer
returns-in_err-footer-clause-answer g c = λ all told picks.
    let p = err_from_is_err_and c.from_residual-in_err-footer.result c.from_residual-in_err-footer.ensures.1 in
    let size = c.in_ok-size.size in
    let tail = c.in_ok-tail.tail in
    rw (p.1, p.2) (both_head_break picks (object all c.args.name.now) c.in_err-footer.field-0.0 (λ bytes. IsSizeOf bytes size) (λ bytes. (size - 40 + 40 ≤ length bytes) × (tail ≡ part bytes (size - 40) 40))
    (c.in_ok-size.ensures.answer all told picks) (c.in_ok-tail.ensures.answer all (c.object_size.ensures.looked.kept ∙ told))
    (λ bytes is found. footer_err picks bytes c.as_slice.result.now size c.in_err-footer.field-0.0 is (omega (arith, c.if-size-lt40.false)) (c.as_slice.ensures ∙ found.1) c.in_err-footer.ensures))

pub returns-clause-answer : goal.returns-clause-answer
returns-clause-answer g c = λ all told picks.
    let size = c.in_ok-size.size in
    let tail = c.in_ok-tail.tail in
    both (object all c.args.name.now) (λ bytes. IsSizeOf bytes size) (λ bytes. (size - 40 + 40 ≤ length bytes) × (tail ≡ part bytes (size - 40) 40)) (λ bytes. IsOpened bytes (record { size = size; footer = c.in_ok-footer.footer }))
    (c.in_ok-size.ensures.answer all told picks) (c.in_ok-tail.ensures.answer all (c.object_size.ensures.looked.kept ∙ told))
    (λ bytes is found. judged_ok bytes c.as_slice.result.now size c.in_ok-footer.footer is (omega (arith, c.if-size-lt40.false)) (c.as_slice.ensures ∙ found.1) c.in_ok-footer.ensures)

pub returns-in_err-size-clause-looked : goal.returns-in_err-size-clause-looked
returns-in_err-size-clause-looked g c =
    let p = err_from_is_err_and c.from_residual.result c.from_residual.ensures.1 in
    rw (p.1, p.2) (c.looks_add_up.ensures.within _ _ _ _ _ (record { ranges = omega arith; bytes = omega arith }) c.in_err-size.ensures.looked)

pub returns-then-size-lt40-clause-looked : goal.returns-then-size-lt40-clause-looked
returns-then-size-lt40-clause-looked g c =
    c.looks_add_up.ensures.within _ _ _ _ _ (record { ranges = omega arith; bytes = omega arith }) c.in_ok-size.ensures.looked

pub returns-in_err-tail-clause-looked : goal.returns-in_err-tail-clause-looked
returns-in_err-tail-clause-looked g c =
    let p = err_from_is_err_and c.from_residual-in_err-tail.result c.from_residual-in_err-tail.ensures.1 in
    rw (p.1, p.2) (c.looks_add_up.ensures.then _ _ _ _ _ _ c.in_ok-size.ensures.looked c.in_err-tail.ensures.looked)

pub returns-in_err-footer-clause-looked : goal.returns-in_err-footer-clause-looked
returns-in_err-footer-clause-looked g c =
    let p = err_from_is_err_and c.from_residual-in_err-footer.result c.from_residual-in_err-footer.ensures.1 in
    rw (p.1, p.2) (footer_judged c.args.name.now c.in_ok-size.size c.as_slice.result.now c.in_err-footer.field-0.0 (range 40) _ _ c.in_err-footer.ensures (c.looks_add_up.ensures.then _ _ _ _ _ _ c.in_ok-size.ensures.looked c.in_ok-tail.ensures.looked))

pub returns-clause-looked : goal.returns-clause-looked
returns-clause-looked g c =
    c.looks_add_up.ensures.then _ _ _ _ _ _ c.in_ok-size.ensures.looked c.in_ok-tail.ensures.looked
