use Rattle.lan_store.proofs.Calling.{looked_then, looked_within, looked_not}
use Rattle.lan_store.proofs.laws.looks_add_up.Goals as goal

pub returns : goal.returns
returns c = record { then = looked_then; within = looked_within; none = looked_not }
