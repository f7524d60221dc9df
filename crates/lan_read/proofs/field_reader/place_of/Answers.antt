use Rattle.std.proofs.Common.{◌∙◌, ◌≤◌, ℕ, ap, inr, length, map, arith}
use Rattle.std.specs.Prelude.{◌≢◌, option_map}
use Rattle.std.proofs.lemmas.List.{length-map}
use Rattle.std.proofs.lemmas.Option.{slice_get-map}
use Rattle.lan_read.proofs.ReadValues.{run_id}
use Rattle.lan_read.proofs.SeekEach.{all_taken, all_taken_more}
use Rattle.lan_read.proofs.field_reader.place_of.Goals as goal

pub loop-i-preserved : goal.loop-i-preserved
loop-i-preserved c =
    let runs = c.args.runs.now in
    all_taken_more (λ (n : ℕ). n ≢ c.args.id) (map run_id runs) c.loop-i.i (run_id c.at.result.now) c.loop-i.invariant
    (slice_get-map run_id runs c.loop-i.i ∙ ap (option_map run_id) c.at.ensures) c.if-at-id.false

pub returns : goal.returns
returns c =
    let runs = c.args.runs.now in
    let ended : length (map run_id runs) ≤ c.loop-i.i = omega (arith, length-map runs run_id, c.len-i-end.ensures) in
    record {
      there = omega (arith, length-map runs run_id, c.requires);
      is = inr (all_taken (λ (n : ℕ). n ≢ c.args.id) (map run_id runs) c.loop-i.i ended c.loop-i.invariant);
    }
