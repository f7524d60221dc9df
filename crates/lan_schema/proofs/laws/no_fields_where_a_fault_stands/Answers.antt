use Rattle.lan_schema.proofs.OneReading.{no_reading}
use Rattle.lan_schema.proofs.laws.no_fields_where_a_fault_stands.Goals as goal

pub returns : goal.returns
returns c = no_reading
