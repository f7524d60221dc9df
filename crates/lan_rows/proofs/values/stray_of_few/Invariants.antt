use Rattle.std.proofs.Common.{◌≡◌}
use Rattle.serde_json.specs.View.{members_view}
use Rattle.lan_model.specs.Plain.{plain_fields}
use Rattle.lan_rows.specs.Values.{first_stray}
use Rattle.lan_rows.proofs.values.stray_of_few.Given as goal

abbrev pub invariant-loop-key : goal.invariant-loop-key
invariant-loop-key l = first_stray (plain_fields l.fields) (members_view l.members.entries) ≡ first_stray (plain_fields l.fields) (members_view l.key-iterator)
