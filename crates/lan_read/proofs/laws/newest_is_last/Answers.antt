use Rattle.lan_read.proofs.Newest.{newest_is, none_is, last_is}
use Rattle.lan_read.proofs.laws.newest_is_last.Goals as goal

pub returns : goal.returns
returns c = record { last = last_is; newest = newest_is; none = none_is }
