use Rattle.lan_wire.proofs.OneFault.{one_failure}
use Rattle.lan_wire.proofs.OneReading.{one_reading, no_reading}
use Rattle.lan_wire.proofs.laws.messages_are_read_once.Goals as goal

pub returns-clause-one : goal.returns-clause-one
returns-clause-one c = one_reading

pub returns-clause-none : goal.returns-clause-none
returns-clause-none c = no_reading

pub returns-clause-fault : goal.returns-clause-fault
returns-clause-fault c = one_failure
