use Rattle.lan_schema.proofs.LeafNames.{names_leaf, named_once}
use Rattle.lan_schema.proofs.laws.leaf_types_have_one_name.Goals as goal

pub returns-clause-named : goal.returns-clause-named
returns-clause-named c = names_leaf

pub returns-clause-once : goal.returns-clause-once
returns-clause-once c = named_once
