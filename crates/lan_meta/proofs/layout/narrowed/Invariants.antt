use Rattle.std.proofs.Common.{◌≡◌, ◌++◌, length, map}
use Rattle.lan_meta.specs.LayoutMessages.{narrow}
use Rattle.lan_meta.proofs.layout.narrowed.Given as goal

abbrev pub invariant-loop-code : goal.invariant-loop-code
invariant-loop-code l = l.codes ++ map narrow l.numbers ≡ map narrow l.initial.numbers

abbrev pub decreases-loop-code : goal.decreases-loop-code
decreases-loop-code l = length l.numbers
