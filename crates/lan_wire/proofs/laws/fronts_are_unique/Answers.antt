use Rattle.lan_wire.proofs.MessageLaws.{front_not_nil}
use Rattle.lan_wire.proofs.SpellingLaws.{same_read}
use Rattle.lan_wire.proofs.laws.fronts_are_unique.Goals as goal

pub returns-clause-one : goal.returns-clause-one
returns-clause-one c = same_read

pub returns-clause-some : goal.returns-clause-some
returns-clause-some c = front_not_nil
