use Rattle.std.proofs.Common.{◌≡◌, ◌++◌, List, length, map}
use Rattle.std.specs.Vec.Iter.{into_iter_items, into_iter_len}
use Rattle.lan_model.specs.Leaves.{plain_leaves}
use Rattle.lan_file.specs.Heads.{picks_of}
use Rattle.lan_manifest.specs.declared.manifest.DataFile.{DataFile}
use Rattle.lan_read.specs.Grouped.{ArePlaces, grouped, numbers_of}
use Rattle.lan_read.specs.Opened.{Use, uses_of}
use Rattle.lan_read.proofs.used.use_leaves.Given as goal

abbrev pub invariant-loop-leaf : goal.invariant-loop-leaf
invariant-loop-leaf l = record {
  numbers : (files : List DataFile) → ArePlaces files l.places → l.numbers ≡ numbers_of files (uses_of files (plain_leaves l.yielded));
  picks : (files : List DataFile) (uses : List Use) → ArePlaces files l.places → map picks_of l.initial.picks ≡ grouped files uses → map picks_of l.picks ≡ grouped files (uses ++ uses_of files (plain_leaves l.yielded));
  long : length l.picks ≡ length l.initial.picks;
  all : l.yielded ++ into_iter_items l.leaf-iterator ≡ into_iter_items l.initial.leaf-iterator;
  left : into_iter_len l.leaf-iterator ≡ length (into_iter_items l.leaf-iterator);
}
