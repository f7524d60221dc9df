use Rattle.lan_wire.proofs.WrittenLaws.{below_64, signed_again, signed_only}
use Rattle.lan_wire.proofs.laws.written_signed_numbers_are_read.Goals as goal

pub returns-clause-below : goal.returns-clause-below
returns-clause-below c = below_64

pub returns-clause-read : goal.returns-clause-read
returns-clause-read c = signed_again

pub returns-clause-only : goal.returns-clause-only
returns-clause-only c = signed_only
