use Rattle.std.specs.Ordering.{nat_cmp}
use Rattle.std.specs.BTreeSet.{contains}
use Rattle.lan_manifest.proofs.Listing.{reads_one, reads_none}
use Rattle.lan_manifest.proofs.versions.version_set.Goals as goal
use Rattle.lan_manifest.proofs.versions.version_set.Goals.{in-Some+in_ok-insert, in_default}

pub loop-name-preserved : goal.loop-name-preserved
loop-name-preserved c =
    elim c.match-version_of_name.branch [
      | in-Some+in_ok-insert w ↦ rw w.set-is (reads_one c.args.names.now c.loop-name.name-index (contains nat_cmp c.loop-name.set) (contains nat_cmp w.insert.new.self) c.name-item.result w.in-Some.version
          c.loop-name.invariant c.loop-name-test.true c.name-item.is w.in-Some.ensures.some.0 w.in-Some.ensures.some.1 w.in_ok-insert.ensures.updates.0)
      | in_default w ↦ rw w.set-is (reads_none c.args.names.now c.loop-name.name-index (contains nat_cmp c.loop-name.set) c.name-item.result c.loop-name.invariant c.loop-name-test.true c.name-item.is w.in_default.ensures.none)
    ]
