use Rattle.lan_store.proofs.Told.{and_then_bytes-twice}
use Rattle.lan_store.proofs.laws.texts_come_one_after_another.Goals as goal

pub returns : goal.returns
returns c = and_then_bytes-twice
