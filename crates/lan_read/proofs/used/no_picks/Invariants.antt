use Rattle.std.proofs.Common.{◌≡◌, map, take}
use Rattle.lan_file.specs.Heads.{picks_of}
use Rattle.lan_read.proofs.Grouping.{no_group}
use Rattle.lan_read.proofs.used.no_picks.Given as goal

abbrev pub invariant-loop-file : goal.invariant-loop-file
invariant-loop-file l = map picks_of l.picks ≡ map no_group (take l._file-index l.files)
