use Rattle.std.proofs.Common.{◌∙◌}
use Rattle.lance_cli.proofs.Numbered.{line_is}
use Rattle.lance_cli.proofs.schema.schema_line.Goals as goal

pub returns : goal.returns
returns c = c.in_ok-push.ensures.ok ∙ line_is c.args.fields.now c.in_ok-line.line c.in_ok-line.ensures
