use Rattle.std.proofs.Common.{ap, ◌∙◌}
use Rattle.std.specs.Ordering.{int_cmp}
use Rattle.std.specs.BTreeSet as tree
use Rattle.lan_manifest.specs.FragmentRules.{listed_ids}
use Rattle.lan_manifest.specs.SchemaLeaves.{is_listed}
use Rattle.lan_manifest.proofs.Listed.{whole_same}
use Rattle.lan_manifest.proofs.keeping.give_whole.Goals as goal

pub returns : goal.returns
returns c = whole_same c.are_whole.result (tree.contains int_cmp c.in_ok-given.given) (is_listed (listed_ids c.args.files.now)) c.as_slice.result.now c.args.schema.now.tops c.in_ok-given.ensures c.as_slice.ensures c.are_whole.ensures
