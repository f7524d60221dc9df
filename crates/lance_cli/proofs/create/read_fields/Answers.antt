use Rattle.std.proofs.Common.{inl, inr}
use Rattle.lance_cli.proofs.Numbered.{takes_fields, refuses_form, out_of_memory}
use Rattle.lance_cli.proofs.create.read_fields.Goals as goal

pub returns-in-Ok : goal.returns-in-Ok
returns-in-Ok c = takes_fields c.args.json.now c.in-Ok.fields c.in-Ok.ensures.fields c.in-Ok.ensures.ids c.in-Ok.ensures.told c.in-Ok.ensures.columns

pub returns-in_ok-of_form-in-Err : goal.returns-in_ok-of_form-in-Err
returns-in_ok-of_form-in-Err c = elim c.in-Err.ensures.fault [
  | inl none ↦ out_of_memory c.args.json.now c.args.line c.in-Err.fault c.in_ok-of_form-in-Err.field-0 none c.in_ok-of_form-in-Err.ensures
  | inr bad ↦ refuses_form c.args.json.now c.args.line c.in-Err.fault c.in_ok-of_form-in-Err.field-0 bad c.in_ok-of_form-in-Err.ensures
]
