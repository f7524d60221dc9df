use Rattle.std.proofs.Common.{ap, ◌∙◌, w32, rules}
use Rattle.std.specs.Ordering.{int_cmp}
use Rattle.std.specs.BTreeSet.{contains}
use Rattle.std.proofs.lemmas.Int.{to_z-of_z}
use Rattle.lan_manifest.proofs.schema.Schema.is_leaf.Goals as goal

pub returns : goal.returns
returns c = c.contains.ensures ∙ ap (contains int_cmp c.args.self.now.leaves) (to_z-of_z w32 c.args.id (search rules))
