use Rattle.std.proofs.Common.{◌≡◌}
use Rattle.serde_json.specs.View.{members_view}
use Rattle.lan_form.specs.Shape.{has_only}
use Rattle.lan_form.proofs.shape.has_only.Given as goal

abbrev pub invariant-loop-key : goal.invariant-loop-key
invariant-loop-key l = has_only l.other (members_view l.members.entries) ≡ has_only l.other (members_view l.key-iterator)
