use Rattle.lan_index.proofs.PastLemmas.{pieces_end}
use Rattle.lan_index.proofs.laws.each_piece_ends.Goals as goal

pub returns : goal.returns
returns c = pieces_end
