use Rattle.std.proofs.Common.{◌≡◌, map, drop}
use Rattle.lan_fresh.specs.Fresh.{greatest_of, with_greatest}
use Rattle.lan_manifest.specs.Manifests.{plain_manifest}
use Rattle.lan_commit.specs.Greatest.{ids_of}
use Rattle.lan_commit.proofs.greatest.greatest_known.Given as goal

abbrev pub invariant-loop-fragment : goal.invariant-loop-fragment
invariant-loop-fragment l = greatest_of (ids_of (plain_manifest l.manifest)) ≡ greatest_of (with_greatest l.known (map (λ f. f.id) (drop l.fragment-index l.manifest.fragments)))
