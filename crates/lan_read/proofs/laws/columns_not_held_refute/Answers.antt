use Rattle.lan_read.proofs.LeafReasons.{no_leaf_fragment, no_leaf_rows, no_leaf_table}
use Rattle.lan_read.proofs.laws.columns_not_held_refute.Goals as goal

pub returns : goal.returns
returns c = record { rows = no_leaf_rows; fragment = no_leaf_fragment; table = no_leaf_table }
