use Rattle.std.specs.Prelude.{codes}
use Rattle.lan_schema.proofs.LogicalParts.{behind_is}
use Rattle.lan_schema.proofs.logical.behind.Goals as goal

pub returns : goal.returns
returns c = behind_is (codes "fixed_size_list:") c.args.logical.now c.strip_prefix.result c.strip_prefix.ensures.cases
