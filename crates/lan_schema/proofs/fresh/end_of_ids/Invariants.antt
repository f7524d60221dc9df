use Rattle.std.proofs.Common.{◌≡◌, ◌≤◌, ◌^◌, max, drop}
use Rattle.lan_schema.specs.Fresh.{end_of_ids}
use Rattle.lan_schema.proofs.fresh.end_of_ids.Given as goal

abbrev pub invariant-loop-id : goal.invariant-loop-id
invariant-loop-id l = (max l.end (end_of_ids (drop l.id-index l.ids)) ≡ end_of_ids l.ids) × (l.end ≤ 2 ^ 31)
