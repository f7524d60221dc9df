use Rattle.std.proofs.Common.{◌-◌, length}
use Rattle.lan_read.specs.Scanning.{GoesOn}
use Rattle.lan_read.proofs.scan.Scan.find.Given as goal

abbrev pub invariant-loop-self : goal.invariant-loop-self
invariant-loop-self l = GoesOn l.initial.self l.self

abbrev pub decreases-loop-self : goal.decreases-loop-self
decreases-loop-self l = length l.self.manifest.fragments - l.self.fragment
