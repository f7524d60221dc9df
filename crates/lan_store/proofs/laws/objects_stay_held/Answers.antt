use Rattle.lan_store.proofs.HeldMore.{held_more, held_behind, held_either, first_held, not_first}
use Rattle.lan_store.proofs.laws.objects_stay_held.Goals as goal

pub returns : goal.returns
returns c = record { more = held_more; behind = held_behind; either = held_either; first = first_held; other = not_first }
