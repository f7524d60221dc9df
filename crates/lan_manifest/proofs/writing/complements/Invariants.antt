use Rattle.std.proofs.Common.{◌≡◌, ◌++◌, drop}
use Rattle.lan_manifest.specs.Manifests.{complements}
use Rattle.lan_manifest.proofs.writing.complements.Given as goal

abbrev pub invariant-loop-value : goal.invariant-loop-value
invariant-loop-value l = l.list.items ++ complements (drop l.value-index l.values) ≡ complements l.values
