use Rattle.std.proofs.Common.{◌≡◌, drop, length}
use Rattle.lan_model.specs.Plain.{plain_fields}
use Rattle.lan_levels.specs.Taken.{left_at}
use Rattle.lan_levels.proofs.MembersWalk.{BareWalk}
use Rattle.lan_levels.proofs.bare.+bare.Given as goal

abbrev pub invariant-bare_members-loop-member : goal.invariant-bare_members-loop-member
invariant-bare_members-loop-member l = record {
  walk : BareWalk (plain_fields l.members) (plain_fields (drop l.member-index l.members)) l.empty l.below l.lists l.leaf l.next (left_at l.runs l.fn.places) (left_at l.runs l.places);
  places : length l.places ≡ length l.runs;
}
