use Rattle.std.proofs.Common.{◌≡◌, ◌+◌, ◌*◌, ◌≤◌, drop, length}
use Rattle.lan_levels.specs.Codes.{states_from}
use Rattle.lan_meta.proofs.writing.greatest_of.Given as goal

abbrev pub invariant-loop-code : goal.invariant-loop-code
invariant-loop-code l = (l.count + length (states_from (drop l.code-index l.codes) l.code-index) ≡ length (states_from l.codes 0)) × (l.count ≤ 2 * l.code-index)
