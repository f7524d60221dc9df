use Rattle.lan_schema.proofs.TableColumns.{columns_same}
use Rattle.lan_schema.proofs.laws.columns_are_fields_of_a_table.Goals as goal

pub returns : goal.returns
returns c = columns_same
