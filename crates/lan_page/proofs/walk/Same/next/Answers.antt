use Rattle.std.proofs.Common.{arith}
use Rattle.lan_levels.specs.PlainSlots.{plain_slot}
use Rattle.lan_page.proofs.PlaceLemmas.{replicate_more}
use Rattle.lan_page.proofs.walk.Same.next.Goals as goal

pub returns-clause-some : goal.returns-clause-some
returns-clause-some c =
    let s = c.args.self.now in
    replicate_more s.left (plain_slot s.slot) (omega arith)
