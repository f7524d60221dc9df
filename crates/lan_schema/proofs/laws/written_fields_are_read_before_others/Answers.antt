use Rattle.lan_schema.proofs.WrittenFields.{written_before, messages_of}
use Rattle.lan_schema.proofs.laws.written_fields_are_read_before_others.Goals as goal

pub returns : goal.returns
returns c = record { read = written_before; messages = messages_of }
