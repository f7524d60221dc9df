use Rattle.std.proofs.Common.{◌≡◌, ℕ, List, [], map, take, drop}
use Rattle.std.specs.Prelude.{bytes_eq, is_some}
use Rattle.std.specs.List.{list_any}
use Rattle.std.specs.Ordering.{nat_cmp}
use Rattle.std.specs.Cmp.Lexicographic.{slice_cmp}
use Rattle.std.specs.BTreeMap as tree
use Rattle.lan_model.specs.PlainTable.{column_of}
use Rattle.lan_model.specs.Table.{name_of}
use Rattle.lan_form.specs.Names.{first_twice}
use Rattle.lan_form.proofs.names.first_twice.Given as goal

abbrev pub invariant-loop-field : goal.invariant-loop-field
invariant-loop-field l = record {
  so_far : first_twice [] (map name_of (map column_of l.fields)) ≡ first_twice (map name_of (map column_of (take l.field-index l.fields))) (map name_of (map column_of (drop l.field-index l.fields)));
  seen : (q : List ℕ) → is_some (tree.get_by (λ k. slice_cmp nat_cmp q k.now) l.seen) ≡ list_any (bytes_eq q) (map name_of (map column_of (take l.field-index l.fields)));
}
