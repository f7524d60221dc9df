use Rattle.std.proofs.Common.{◌≡◌, ◌++◌, length, map}
use Rattle.std.specs.Vec.Iter.{into_iter_items, into_iter_len}
use Rattle.lan_manifest.specs.FragmentRules.{HaveIds}
use Rattle.lan_manifest.specs.ManifestObjects.{fragment_of}
use Rattle.lan_manifest.proofs.reading.fragments_of.Given as goal

abbrev pub invariant-loop-one : goal.invariant-loop-one
invariant-loop-one l = record {
  fragments : l.fragments ≡ map fragment_of l.yielded;
  all : l.yielded ++ into_iter_items l.one-iterator ≡ into_iter_items l.initial.one-iterator;
  left : into_iter_len l.one-iterator ≡ length (into_iter_items l.one-iterator);
  ids : HaveIds (into_iter_items l.one-iterator);
}
