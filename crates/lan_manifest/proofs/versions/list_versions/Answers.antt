use Rattle.std.proofs.Common.{subst}
use Rattle.lan_manifest.specs.Versions.{AreVersionsOf}
use Rattle.lan_manifest.proofs.Listing.{listed_versions}
use Rattle.lan_manifest.proofs.versions.list_versions.Goals as goal

pub returns-in-Ok-clause-versions : goal.returns-in-Ok-clause-versions
returns-in-Ok-clause-versions g c = λ all told.
    let versions = subst (λ l. AreVersionsOf l c.in-Ok.versions) c.as_slice.ensures c.in-Ok.ensures in
    listed_versions all c.list.new.into c.in-Ok.versions (c.in_ok-list.ensures.answer all told) versions

pub returns-in-Ok-clause-range : goal.returns-in-Ok-clause-range
returns-in-Ok-clause-range g c = λ k d below. (c.in-Ok.ensures.only k d below).0
