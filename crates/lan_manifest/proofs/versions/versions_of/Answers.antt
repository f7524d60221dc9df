use Rattle.std.proofs.Common.{◌≡◌, rules}
use Rattle.lan_manifest.proofs.Listing.{versions_of_set}
use Rattle.lan_manifest.proofs.versions.versions_of.Goals as goal

pub returns : goal.returns
returns c =
    let collected : c.in_ok-collect.field-0.items ≡ c.in_ok-set.set.keys = search rules in
    let versions = versions_of_set c.args.names.now c.in_ok-set.set c.into_iter.ensures.into_iter_gives.4 c.in_ok-set.ensures.only c.in_ok-set.ensures.all in
    rw (c.from_vec.ensures, collected) versions
