use Rattle.lan_index.proofs.ZipPlaces.{zip_pieces}
use Rattle.lan_index.proofs.laws.zip_pages_have_pieces.Goals as goal

pub returns : goal.returns
returns c = zip_pieces
