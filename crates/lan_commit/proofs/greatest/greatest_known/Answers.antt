use Rattle.std.proofs.Common.{◌≡◌, sym, ◌∙◌, ◌+◌, ◌≤◌, ◌<◌, List, ap, subst, length, get_or, map, drop, arith}
use Rattle.std.specs.Prelude.{Some}
use Rattle.lan_fresh.specs.Fresh.{greatest_of, with_greatest}
use Rattle.lan_commit.specs.Greatest.{ids_of}
use Rattle.lan_manifest.specs.Manifests.{plain_manifest}
use Rattle.lan_manifest.specs.declared.manifest.Fragment.{Fragment}
use Rattle.lan_commit.proofs.GreatestIds.{known_more, known_done}
use Rattle.lan_commit.proofs.greatest.greatest_known.Goals as goal

pub loop-fragment-preserved : goal.loop-fragment-preserved
loop-fragment-preserved c =
    let i = c.loop-fragment.fragment-index in
    let f = c.fragment-item.result in
    let below : i < length c.args.manifest.now.fragments = omega (arith, ap length c.as_slice-fragment-items.ensures) in
    let is : f ≡ get_or c.args.manifest.now.fragments i f = c.fragment-item.is ∙ ap (λ (l : List Fragment). get_or l i f) c.as_slice-fragment-items.ensures in
    let more = known_more c.args.manifest.now.fragments i f _ c.loop-fragment.known below is c.loop-fragment.invariant in
    subst (λ n. greatest_of (ids_of (plain_manifest c.args.manifest.now)) ≡ greatest_of (with_greatest (Some n) (map (λ f. f.id) (drop (i + 1) c.args.manifest.now.fragments)))) (sym c.greater.ensures) more

pub returns : goal.returns
returns c =
    let ended : length c.args.manifest.now.fragments ≤ c.loop-fragment.fragment-index = omega (arith, ap length c.as_slice-fragment-items.ensures) in
    known_done (plain_manifest c.args.manifest.now) c.loop-fragment.fragment-index c.loop-fragment.known ended c.loop-fragment.invariant
