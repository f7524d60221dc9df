use Rattle.std.proofs.Common.{◌≡◌, take}
use Rattle.lan_manifest.proofs.copying.copy_fragments.Given as goal

abbrev pub invariant-loop-fragment : goal.invariant-loop-fragment
invariant-loop-fragment l = l.copies ≡ take l.fragment-index l.fragments
