use Rattle.std.proofs.Common.{arith}
use Rattle.lan_wire.proofs.FrontVarint.{not_nil}
use Rattle.lan_wire.proofs.FrontItem.{begins_at}
use Rattle.lan_wire.proofs.FaultLaws.{stands}
use Rattle.lan_wire.proofs.reading.first_item.Goals as goal

pub returns-in-Ok-clause-begins : goal.returns-in-Ok-clause-begins
returns-in-Ok-clause-begins c = begins_at c.args.at c.args.bytes.now c.in-Ok.rest.now c.in-Ok.item (λ k. omega (arith, c.type_inv.bytes k)) c.in-Ok.ensures.read

pub returns-in-Err-clause-stands : goal.returns-in-Err-clause-stands
returns-in-Err-clause-stands c = stands c.args.at c.args.bytes.now c.in-Err.kind (λ k. omega (arith, c.type_inv.bytes k)) (not_nil c.args.bytes.now c.requires.full) c.in-Err.ensures.read
