use Rattle.lan_wire.proofs.NumberLists.{numbers_are}
use Rattle.lan_wire.proofs.laws.packed_numbers_are_listed.Goals as goal

pub returns : goal.returns
returns c = numbers_are
