use Rattle.std.proofs.Common.{ap, ◌∙◌}
use Rattle.std.specs.Ordering.{int_cmp}
use Rattle.std.specs.BTreeSet as tree
use Rattle.lan_manifest.specs.FragmentRules.{listed_ids}
use Rattle.lan_manifest.specs.SchemaLeaves.{is_listed}
use Rattle.lan_manifest.proofs.Listed.{lack_same}
use Rattle.lan_manifest.proofs.keeping.give_needed.Goals as goal

pub returns : goal.returns
returns c = lack_same c.may_lack.result (tree.contains int_cmp c.in_ok-given.given) (is_listed (listed_ids c.args.files.now)) c.as_slice.result.now c.args.schema.now.tops c.in_ok-given.ensures c.as_slice.ensures c.may_lack.ensures
