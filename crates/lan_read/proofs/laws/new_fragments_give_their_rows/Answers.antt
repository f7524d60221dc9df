use Rattle.lan_read.proofs.WrittenFiles.{fragment_written}
use Rattle.lan_read.proofs.laws.new_fragments_give_their_rows.Goals as goal

pub returns : goal.returns
returns c = fragment_written
