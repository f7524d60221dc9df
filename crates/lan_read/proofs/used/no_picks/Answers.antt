use Rattle.std.proofs.Common.{ap, arith, length, map}
use Rattle.lan_file.specs.Heads.{picks_of}
use Rattle.lan_read.proofs.Grouping.{no_picks_taken}
use Rattle.lan_read.proofs.used.no_picks.Goals as goal

pub returns : goal.returns
returns c = no_picks_taken c.args.files.now c.loop-file._file-index (map picks_of c.loop-file.picks) (omega (arith, c.loop-file-test.false, ap length c.as_slice-file-items.ensures)) c.loop-file.invariant
