use Rattle.std.proofs.lemmas.Result.{err_from_is_err_and}
use Rattle.lan_model.specs.Plain.{plain_field, plain_value}
use Rattle.lan_levels.specs.Taken.{left_at}
use Rattle.lan_levels.proofs.Assembled.{cause_of, left_over, whole_join}
use Rattle.lan_levels.proofs.assembling.joined.Goals as goal

pub returns-in_err-val-clause-cause : goal.returns-in_err-val-clause-cause
returns-in_err-val-clause-cause c =
    let a = c.args in
    let p = err_from_is_err_and c.from_residual.result c.from_residual.ensures.1 in
    rw (p.1, p.2) (cause_of (plain_field a.field.now) a.runs.now (left_at a.runs.now a.places.now) c.in_err-val.field-0.0 c.requires.start c.in_err-val.ensures.err)

pub returns-in-Some-clause-cause : goal.returns-in-Some-clause-cause
returns-in-Some-clause-cause c =
    let a = c.args in
    left_over (plain_field a.field.now) a.runs.now (left_at a.runs.now a.places.now) (left_at a.runs.now c.value_at.new.places) (plain_value c.in_ok-val.val) c.in-Some.leaf
    c.requires.runs c.requires.start c.in_ok-val.ensures.ok c.in-Some.ensures.some

pub returns-in-None-clause-ok : goal.returns-in-None-clause-ok
returns-in-None-clause-ok c =
    let a = c.args in
    whole_join (plain_field a.field.now) a.runs.now (left_at a.runs.now a.places.now) (left_at a.runs.now c.value_at.new.places) (plain_value c.in_ok-val.val)
    c.requires.runs c.requires.start c.in_ok-val.ensures.ok c.in-None.ensures.none
