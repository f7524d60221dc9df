use Rattle.std.proofs.Common.{◌≡◌, max, map, drop}
use Rattle.lan_fresh.specs.Fresh.{greatest_of, above}
use Rattle.lan_fresh.proofs.fresh.above_fragments.Given as goal

abbrev pub invariant-loop-fragment : goal.invariant-loop-fragment
invariant-loop-fragment l = above (greatest_of (map (λ f. f.id) l.fragments)) 0 ≡ max l.fresh (above (greatest_of (map (λ f. f.id) (drop l.fragment-index l.fragments))) 0)
