use Rattle.std.proofs.Common.{◌≡◌, ◌++◌, drop}
use Rattle.lan_manifest.specs.FragmentRules.{listed_ids}
use Rattle.lan_manifest.proofs.keeping.listed_ids.Given as goal

abbrev pub invariant-loop-said : goal.invariant-loop-said
invariant-loop-said l = l.ids ++ listed_ids (drop l.said-index l.files) ≡ listed_ids l.files
