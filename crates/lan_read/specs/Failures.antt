-- The name at which the store failed, by what was answered.
use Rattle.std.specs.Prelude.{Option, Some, None, Result, Err}
use Rattle.lan_store.specs.declared.name.Name.{Name}
use Rattle.lan_read.specs.declared.object.ObjectFault.{ObjectFault}
use Rattle.lan_read.specs.declared.object.ObjectFault.TheVariants.{Failed}
use Rattle.lan_read.specs.declared.read_fault.ReadFault.{ReadFault}
use Rattle.lan_read.specs.declared.read_fault.ReadFault.TheVariants as unread

-- by what is answered of the object of this name
abbrev pub object_failure : {A : Type 0} → Name → Result A ObjectFault → Option Name
object_failure name (Err Failed) = Some name
object_failure name result = None

-- by what is answered of versions, snapshots and their rows
abbrev pub unread_failure : {A : Type 0} → Result A ReadFault → Option Name
unread_failure (Err (unread.Store name)) = Some name
unread_failure result = None
