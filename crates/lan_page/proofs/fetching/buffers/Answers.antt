use Rattle.std.proofs.Common.{arith}
use Rattle.lan_page.proofs.Fetched.{one_item}
use Rattle.lan_page.proofs.fetching.buffers.Goals as goal

pub returns-then-len-eq1 : goal.returns-then-len-eq1
returns-then-len-eq1 c = one_item c.args.page.now.buffers c.at.result.now (omega arith) c.at.ensures
