use Rattle.std.proofs.Common.{◌≡◌, drop}
use Rattle.std.specs.Prelude.{ℤ}
use Rattle.std.specs.BTreeMap.{get}
use Rattle.std.specs.Option.{option_or}
use Rattle.std.specs.Ordering.{int_cmp}
use Rattle.lan_read.specs.Grouped.{place_in}
use Rattle.lan_read.proofs.used.places_of.Given as goal

abbrev pub invariant-loop-file : goal.invariant-loop-file
invariant-loop-file l = (id : ℤ) → option_or (get int_cmp l.places id) (place_in l.files (drop l.file-index l.files) id) ≡ place_in l.files l.files id
