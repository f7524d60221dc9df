use Rattle.lan_wire.proofs.FaultsHold.{one_fault, no_item, no_items}
use Rattle.lan_wire.proofs.laws.faults_exclude.Goals as goal

pub returns-clause-faults : goal.returns-clause-faults
returns-clause-faults c = one_fault

pub returns-clause-item : goal.returns-clause-item
returns-clause-item c = no_item

pub returns-clause-items : goal.returns-clause-items
returns-clause-items c = no_items
