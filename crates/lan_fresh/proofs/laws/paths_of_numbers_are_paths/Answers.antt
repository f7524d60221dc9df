use Rattle.lan_fresh.proofs.PathRules.{path_is_path}
use Rattle.lan_fresh.proofs.laws.paths_of_numbers_are_paths.Goals as goal

pub returns : goal.returns
returns c = path_is_path
