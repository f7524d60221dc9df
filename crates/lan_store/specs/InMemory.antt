-- What stores in memory show, and tell.
use Rattle.std.specs.Prelude.{List, Some, None}
use Rattle.lan_store.specs.Telling.{Telling}
use Rattle.lan_store.specs.declared.blind.BlindStore.{BlindStore}
use Rattle.lan_store.specs.declared.calm.CalmStore.{CalmStore}
use Rattle.lan_store.specs.declared.memory.MemStore.{MemStore}
use Rattle.lan_store.specs.declared.name.Object.{Object}

abbrev pub calm_objects : CalmStore → List Object
calm_objects store = store.shelf.objects

abbrev pub calm_tells : CalmStore → Telling
calm_tells store = record { objects = Some (calm_objects store); failed = None; faults = 0; gets = store.shelf.gets; got = store.shelf.got; clashes = store.shelf.clashes }

abbrev pub memory_objects : MemStore → List Object
memory_objects store = store.shelf.objects

abbrev pub memory_tells : MemStore → Telling
memory_tells store = record { objects = Some (memory_objects store); failed = store.failed; faults = store.faults; gets = store.shelf.gets; got = store.shelf.got; clashes = store.shelf.clashes }

-- the counts of the store within, but for clashes
abbrev pub blind_tells : BlindStore → Telling
blind_tells store = record (memory_tells store.store) { objects = None; failed = None; clashes = store.clashes }
