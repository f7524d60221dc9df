use Rattle.std.proofs.Common.{◌≡◌, ℕ, List, take}
use Rattle.std.specs.BTreeMap.{get_by}
use Rattle.std.specs.Cmp.Lexicographic.{slice_cmp}
use Rattle.std.specs.Ordering.{nat_cmp}
use Rattle.lan_read.specs.Grouped.{last_place}
use Rattle.lan_read.proofs.used.last_places.Given as goal

abbrev pub invariant-loop-i : goal.invariant-loop-i
invariant-loop-i l = (path : List ℕ) → get_by (λ k. slice_cmp nat_cmp path k.now) l.last ≡ last_place (take l.i l.files) path
