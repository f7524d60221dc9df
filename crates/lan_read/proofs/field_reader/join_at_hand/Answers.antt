use Rattle.std.proofs.Common.{◌∙◌, ℕ, List, [], ap, arith, length, subst, sym}
use Rattle.std.proofs.lemmas.List.{length-map}
use Rattle.lan_model.specs.Leaves.{leaves_of}
use Rattle.lan_model.specs.Plain.{plain_field}
use Rattle.lan_read.specs.Joining.{IsPlaceOf}
use Rattle.lan_read.proofs.ReadValues.{id_of, lent_ids, run_id, some_leaves}
use Rattle.lan_read.proofs.field_reader.join_at_hand.Goals as goal

pub assemble-requires-clause-runs : goal.assemble-requires-clause-runs
assemble-requires-clause-runs c = lent_ids c.args.cursors.now c.in_ok-runs.runs c.in_ok-runs.ensures ∙ c.requires.leaves

pub place_of-requires : goal.place_of-requires
place_of-requires c =
    let f = plain_field c.args.field.now in
    let runs = c.in_ok-runs.runs in
    let ids = lent_ids c.args.cursors.now runs c.in_ok-runs.ensures ∙ c.requires.leaves in
    omega (arith, some_leaves f 0 [] c.requires.field, ap (length {A = ℕ}) ids, length-map runs run_id, length-map (leaves_of f 0 []) id_of)

pub returns-in-Some-clause-unjoined : goal.returns-in-Some-clause-unjoined
returns-in-Some-clause-unjoined c =
    let ids = lent_ids c.args.cursors.now c.in_ok-runs.runs c.in_ok-runs.ensures in
    record {
      runs = c.in_ok-runs.runs;
      lent = c.in_ok-runs.ensures;
      cause = c.in-Err.ensures.cause;
      id = c.in-Some.id;
      blames = sym c.blamed.ensures ∙ c.in-Some.is;
      at = subst (λ (l : List ℕ). IsPlaceOf l c.in-Some.id c.place_of.result) ids c.place_of.ensures;
    }
