use Rattle.std.proofs.Common.{refl}
use Rattle.lan_levels.specs.PlainSlots.{plain_piece}
use Rattle.lan_levels.specs.Values.{same_values}
use Rattle.lan_values.proofs.Each.{counted}
use Rattle.lan_values.proofs.constant.ConstView.new.Goals as goal

pub returns-clause-count : goal.returns-clause-count
returns-clause-count c = counted (λ _. plain_piece c.args.value) c.args.n (same_values (plain_piece c.args.value) c.args.n) refl
