use Rattle.lan_schema.proofs.WrittenBack.{read_fields}
use Rattle.lan_schema.proofs.laws.fields_that_are_read_are_of_a_table.Goals as goal

pub returns-clause-table : goal.returns-clause-table
returns-clause-table c = λ message number said p. (read_fields message number said p).table

pub returns-clause-apart : goal.returns-clause-apart
returns-clause-apart c = λ message number said p. (read_fields message number said p).apart

pub returns-clause-told : goal.returns-clause-told
returns-clause-told c = λ message number said p. (read_fields message number said p).told
