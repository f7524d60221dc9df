use Rattle.lan_read.proofs.ScanSteps.{goes_then}
use Rattle.lan_read.proofs.scan.Scan.find.Goals as goal

pub loop-self-preserved : goal.loop-self-preserved
loop-self-preserved c = goes_then c.args.self.now c.loop-self.self c.leave.new.self c.loop-self.invariant c.leave.ensures.goes
