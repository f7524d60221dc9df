use Rattle.lan_schema.proofs.OneReading.{one_reading}
use Rattle.lan_schema.proofs.laws.one_list_of_fields.Goals as goal

pub returns : goal.returns
returns c = one_reading
