use Rattle.lan_meta.proofs.PageSlots.{one_list}
use Rattle.lan_meta.proofs.laws.one_list_of_slots.Goals as goal

pub returns : goal.returns
returns c = one_list
