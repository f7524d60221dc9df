use Rattle.lan_wire.proofs.NumberLaws.{numbers_unique, one_break, no_numbers}
use Rattle.lan_wire.proofs.laws.numbers_are_unique.Goals as goal

pub returns-clause-numbers : goal.returns-clause-numbers
returns-clause-numbers c = numbers_unique

pub returns-clause-faults : goal.returns-clause-faults
returns-clause-faults c = one_break

pub returns-clause-either : goal.returns-clause-either
returns-clause-either c = no_numbers
