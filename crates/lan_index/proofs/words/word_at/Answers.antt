use Rattle.lan_index.proofs.ChunkLemmas.{index_is}
use Rattle.lan_index.proofs.words.word_at.Goals as goal

pub returns : goal.returns
returns c = index_is c.args.words.now c.args.i c.at.result c.at.ensures
