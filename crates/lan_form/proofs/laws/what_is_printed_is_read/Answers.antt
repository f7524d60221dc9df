use Rattle.lan_form.proofs.ReadBack.{read_back}
use Rattle.lan_form.proofs.laws.what_is_printed_is_read.Goals as goal

pub returns : goal.returns
returns c = read_back
