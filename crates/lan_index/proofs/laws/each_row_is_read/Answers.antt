use Rattle.lan_index.proofs.PieceLemmas.{read_from}
use Rattle.lan_index.proofs.laws.each_row_is_read.Goals as goal

pub returns : goal.returns
returns c = read_from
