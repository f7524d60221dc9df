use Rattle.lan_store.proofs.Calling.{stored_then, stored_looked, stored_within}
use Rattle.lan_store.proofs.laws.puts_follow_looks.Goals as goal

pub returns : goal.returns
returns c = record { then = stored_then; looked = stored_looked; within = stored_within }
