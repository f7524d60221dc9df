use Rattle.lan_schema.proofs.WrittenBack.{written_back}
use Rattle.lan_schema.proofs.laws.fields_that_are_read_are_written_back.Goals as goal

pub returns : goal.returns
returns c = written_back
