use Rattle.lan_wire.proofs.WrittenValues.{num_back, small_back, maybe_small_back, maybe_small_absent, signed_back, flag_back, text_back, part_back, part_absent, parts_back, nums_back, signeds_back}
use Rattle.lan_wire.proofs.laws.written_values_are_said.Goals as goal

pub returns-clause-nums : goal.returns-clause-nums
returns-clause-nums c = num_back

pub returns-clause-smalls : goal.returns-clause-smalls
returns-clause-smalls c = small_back

pub returns-clause-signs : goal.returns-clause-signs
returns-clause-signs c = signed_back

pub returns-clause-flags : goal.returns-clause-flags
returns-clause-flags c = flag_back

pub returns-clause-texts : goal.returns-clause-texts
returns-clause-texts c = text_back

pub returns-clause-part : goal.returns-clause-part
returns-clause-part c = part_back

pub returns-clause-absent : goal.returns-clause-absent
returns-clause-absent c = part_absent

pub returns-clause-parts : goal.returns-clause-parts
returns-clause-parts c = parts_back

pub returns-clause-lists : goal.returns-clause-lists
returns-clause-lists c = nums_back

pub returns-clause-signeds : goal.returns-clause-signeds
returns-clause-signeds c = signeds_back

pub returns-clause-present : goal.returns-clause-present
returns-clause-present c = maybe_small_back

pub returns-clause-missing : goal.returns-clause-missing
returns-clause-missing c = maybe_small_absent
