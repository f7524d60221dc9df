use Rattle.std.proofs.Common.{◌≡◌, drop}
use Rattle.lan_manifest.specs.SchemaLeaves.{shape_in}
use Rattle.lan_manifest.specs.FragmentRules.{are_indexed}
use Rattle.lan_manifest.proofs.keeping.are_indexed.Given as goal

abbrev pub invariant-loop-i : goal.invariant-loop-i
invariant-loop-i l = are_indexed (shape_in l.schema).is_leaf (drop l.i l.ids) (drop l.i l.columns) ≡ are_indexed (shape_in l.schema).is_leaf l.ids l.columns
