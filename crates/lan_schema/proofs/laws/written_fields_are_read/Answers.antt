use Rattle.lan_schema.proofs.WrittenFields.{written_read}
use Rattle.lan_schema.proofs.laws.written_fields_are_read.Goals as goal

pub returns : goal.returns
returns c = written_read
