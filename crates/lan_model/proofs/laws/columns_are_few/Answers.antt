use Rattle.lan_model.proofs.FewLeaves.{few_columns}
use Rattle.lan_model.proofs.laws.columns_are_few.Goals as goal

pub returns : goal.returns
returns c = few_columns
