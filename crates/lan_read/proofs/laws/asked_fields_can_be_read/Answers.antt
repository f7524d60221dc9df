use Rattle.lan_read.proofs.ReadableFields.{columns_at, readable_at}
use Rattle.lan_read.proofs.laws.asked_fields_can_be_read.Goals as goal

pub returns : goal.returns
returns c = record { columns = columns_at; readable = readable_at }
