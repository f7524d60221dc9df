use Rattle.lan_wire.proofs.OneMember.{one_member}
use Rattle.lan_wire.proofs.laws.oneofs_have_one_member.Goals as goal

pub returns : goal.returns
returns c = one_member
