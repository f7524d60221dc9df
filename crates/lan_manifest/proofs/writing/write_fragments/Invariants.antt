use Rattle.std.proofs.Common.{◌≡◌, ◌++◌, take}
use Rattle.std.specs.Prelude.{flat_map}
use Rattle.lan_wire.specs.Spelling.{part_item}
use Rattle.lan_manifest.specs.Manifests.{fragment_text}
use Rattle.lan_manifest.proofs.writing.write_fragments.Given as goal

abbrev pub invariant-loop-fragment : goal.invariant-loop-fragment
invariant-loop-fragment l = l.out ≡ l.initial.out ++ flat_map (λ f. part_item 2 (fragment_text f)) (take l.fragment-index l.fragments)
