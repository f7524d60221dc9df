use Rattle.lan_store.proofs.Calling.{spends_step, spends_then, spends_beside, asks_of}
use Rattle.lan_store.proofs.laws.allowances_are_taken_off.Goals as goal

pub returns : goal.returns
returns c = record { step = spends_step; then = spends_then; beside = spends_beside; whole = asks_of }
