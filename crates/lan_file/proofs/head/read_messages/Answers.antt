use Rattle.std.proofs.Common.{refl, subst}
use Rattle.std.proofs.lemmas.Result.{err_from_is_err_and}
use Rattle.lan_bytes.specs.Placed.{Placed}
use Rattle.lan_wire.specs.Messages.{FailsToRead}
use Rattle.lan_wire.specs.Rules.{open_to}
use Rattle.lan_file.specs.declared.descriptor.TheConstants.{FILE_DESCRIPTOR}
use Rattle.lan_file.specs.Descriptor.{StatesRows}
use Rattle.lan_file.specs.Heads.{picks_of}
use Rattle.lan_file.proofs.Picked.{picks_break}
use Rattle.lan_file.proofs.TablesRead.{survey_ok}
use Rattle.lan_file.proofs.head.read_messages.Goals as goal

pub returns-in-Err-clause-answer : goal.returns-in-Err-clause-answer
returns-in-Err-clause-answer c = λ bytes is there.
    let P : Placed → Type 0 = λ message. FailsToRead (open_to FILE_DESCRIPTOR) message c.in-Err.fault in
    (is.small, survey_ok bytes c.args.tables.now c.args.picks.now is c.requires.parts, subst P there c.in-Err.ensures.fault, refl)

pub returns-in_err-columns-clause-answer : goal.returns-in_err-columns-clause-answer
returns-in_err-columns-clause-answer c = λ bytes is there.
    let p = err_from_is_err_and c.from_residual.result c.from_residual.ensures.1 in
    let P : Placed → Type 0 = λ message. StatesRows message c.in-Ok.rows in
    rw (p.1, p.2) (picks_break (picks_of c.args.picks.now) bytes c.in-Ok.rows c.in_err-columns.field-0.0 is.small (survey_ok bytes c.args.tables.now c.args.picks.now is c.requires.parts) (subst P there c.in-Ok.ensures.ok) (c.in_err-columns.ensures.answer bytes is))

pub returns-clause-answer : goal.returns-clause-answer
returns-clause-answer c = λ bytes is there.
    let P : Placed → Type 0 = λ message. StatesRows message c.in-Ok.rows in (
      is.small,
      record {
        whole = survey_ok bytes c.args.tables.now c.args.picks.now is c.requires.parts;
        rows_are = subst P there c.in-Ok.ensures.ok;
        columns_are = c.in_ok-columns.ensures.answer bytes is;
      },
    )
