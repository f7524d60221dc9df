use Rattle.std.proofs.Common.{◌≡◌, refl, sym, ◌∙◌, ℕ, List, false}
use Rattle.std.specs.Prelude.{Option, Some, None, is_some}
use Rattle.lan_store.proofs.HeldMore.{added_held}
use Rattle.lan_store.proofs.memory.MemStore.leave.Goals as goal

none_held : (held : Option (List ℕ)) → is_some held ≡ false → held ≡ None
none_held None is = refl
none_held (Some bytes) is = absurd (cc is)

pub returns-clause-leaves : goal.returns-clause-leaves
returns-clause-leaves c =
    rw c.if-not-after.false
    (added_held c.args.self.now.shelf.objects c.add.new.self.objects (record { name = c.args.name.now; bytes = c.args.bytes.now }) c.add.result (none_held _ (sym c.holds.ensures ∙ c.if-holds.false)) c.add.ensures.ok)
