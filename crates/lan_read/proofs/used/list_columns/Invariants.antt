use Rattle.std.proofs.Common.{◌≡◌, drop}
use Rattle.std.specs.Prelude.{ℤ}
use Rattle.std.specs.BTreeMap.{get}
use Rattle.std.specs.Option.{option_or}
use Rattle.std.specs.Ordering.{int_cmp}
use Rattle.lan_read.specs.Grouped.{placed}
use Rattle.lan_read.specs.Opened.{column_listed}
use Rattle.lan_read.proofs.used.list_columns.Given as goal

abbrev pub invariant-loop-k : goal.invariant-loop-k
invariant-loop-k l = (id : ℤ) →
    option_or (get int_cmp l.places id) (placed l.number (column_listed (drop l.k l.file.ids) (drop l.k l.file.columns) id))
    ≡ option_or (get int_cmp l.initial.places id) (placed l.number (column_listed l.file.ids l.file.columns id))
