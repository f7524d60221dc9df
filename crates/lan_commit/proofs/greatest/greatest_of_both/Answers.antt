use Rattle.std.proofs.Common.{◌≡◌, ◌∙◌, ap, sym, ℕ}
use Rattle.std.specs.Prelude.{Some, None}
use Rattle.lan_manifest.specs.Manifests.{plain_manifest}
use Rattle.lan_commit.proofs.GreatestOfBoth.{either_greater, greatest_both}
use Rattle.lan_commit.proofs.greatest.greatest_of_both.Goals as goal

pub returns-in_default-Some : goal.returns-in_default-Some
returns-in_default-Some c =
    let known = c.greatest_known-known.result in
    let is : Some c.in_default-Some.id ≡ c.greatest_known.result = cc c.in_default-Some.is-1 in
    ap (λ (n : ℕ). Some n) c.greater.ensures ∙ ap (either_greater known) is
    ∙ greatest_both (plain_manifest c.args.newest.now) (plain_manifest c.args.old.now) known c.greatest_known.result c.greatest_known-known.ensures c.greatest_known.ensures

pub returns-in_default-None : goal.returns-in_default-None
returns-in_default-None c =
    let known = c.greatest_known-known.result in
    let is : c.greatest_known.result ≡ None = cc c.in_default-None.is-1 in
    ap (either_greater known) (sym is)
    ∙ greatest_both (plain_manifest c.args.newest.now) (plain_manifest c.args.old.now) known c.greatest_known.result c.greatest_known-known.ensures c.greatest_known.ensures
