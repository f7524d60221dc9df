use Rattle.lan_rows.proofs.FewRows.{few_lines}
use Rattle.lan_rows.proofs.lines.RowLines.new.Goals as goal

pub returns-clause-few : goal.returns-clause-few
returns-clause-few c = few_lines c.args.input.now
