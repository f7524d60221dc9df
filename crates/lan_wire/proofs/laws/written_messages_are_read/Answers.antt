use Rattle.lan_wire.proofs.WrittenItems.{written_read, all_short}
use Rattle.lan_wire.proofs.laws.written_messages_are_read.Goals as goal

pub returns-clause-each : goal.returns-clause-each
returns-clause-each c = written_read

pub returns-clause-whole : goal.returns-clause-whole
returns-clause-whole c = all_short
