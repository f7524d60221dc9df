use Rattle.lan_page.proofs.Fetched.{two_items}
use Rattle.lan_page.proofs.fetching.two_buffers.Goals as goal

pub returns : goal.returns
returns c = two_items c.args.page.now.buffers c.at.result.now c.at-2.result.now c.requires c.at.ensures c.at-2.ensures
