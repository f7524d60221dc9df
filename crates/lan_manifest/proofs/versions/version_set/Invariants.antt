use Rattle.std.specs.Ordering.{nat_cmp}
use Rattle.std.specs.BTreeSet.{contains}
use Rattle.lan_manifest.proofs.Listing.{Reads}
use Rattle.lan_manifest.proofs.versions.version_set.Given as goal

abbrev pub invariant-loop-name : goal.invariant-loop-name
invariant-loop-name l = Reads l.names l.name-index (contains nat_cmp l.set)
