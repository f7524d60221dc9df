use Rattle.lan_read.proofs.ScanSteps.{leaves}
use Rattle.lan_read.proofs.scan.Scan.leave.Goals as goal

pub returns-clause-goes : goal.returns-clause-goes
returns-clause-goes c = leaves _ c.args.self.now c.self.view_is c.self.invariant.scan c.requires
