use Rattle.std.proofs.Common.{◌≡◌, ◌+◌, drop, length}
use Rattle.lan_model.specs.Plain.{plain_field, plain_fields, plain_values}
use Rattle.lan_levels.specs.EachLeaf.{leaf_count}
use Rattle.lan_levels.specs.BadSlots.{slots_at}
use Rattle.lan_levels.specs.Taken.{left_at, TookItems}
use Rattle.lan_levels.proofs.MembersWalk.{MembersWalk}
use Rattle.lan_levels.proofs.walk.+value.Given as goal

abbrev pub invariant-members_at-loop-member : goal.invariant-members_at-loop-member
invariant-members_at-loop-member l = record {
  walk : MembersWalk (plain_fields l.members) (plain_fields (drop l.member-index l.members)) l.lists l.leaf l.next (slots_at l.runs) (left_at l.runs l.fn.places) (left_at l.runs l.places)
      (plain_values l.vals);
  places : length l.places ≡ length l.runs;
}

abbrev pub invariant-items_at-loop-alloc : goal.invariant-items_at-loop-alloc
invariant-items_at-loop-alloc l = record {
  took : TookItems (plain_field l.item) l.lists l.leaf (left_at l.runs l.fn.places) (left_at l.runs l.places) (plain_values l.vals);
  past : l.past ≡ l.leaf + leaf_count (plain_field l.item);
  places : length l.places ≡ length l.runs;
}

abbrev pub decreases-items_at-loop-alloc : goal.decreases-items_at-loop-alloc
decreases-items_at-loop-alloc l = length (left_at l.runs l.places l.leaf)
