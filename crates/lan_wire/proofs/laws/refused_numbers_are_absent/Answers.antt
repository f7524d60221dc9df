use Rattle.lan_wire.proofs.OneMember.{refused_part}
use Rattle.lan_wire.proofs.laws.refused_numbers_are_absent.Goals as goal

pub returns : goal.returns
returns c = refused_part
