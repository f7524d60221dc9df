use Rattle.std.specs.Prelude.{Some, None}
use Rattle.lan_store.proofs.memory.MemStore.new.Goals as goal

pub returns-clause-tells : goal.returns-clause-tells
returns-clause-tells c = λ i. record { objects = Some (c.new.ensures.objects i); failed = None; faults = 0; gets = c.new.ensures.counts.0 i; got = c.new.ensures.counts.1 i; clashes = c.new.ensures.counts.2 i }
