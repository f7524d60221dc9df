use Rattle.std.proofs.Common.{◌≡◌, take}
use Rattle.lan_meta.proofs.writing.widened.Given as goal

abbrev pub invariant-loop-code : goal.invariant-loop-code
invariant-loop-code l = l.list.items ≡ take l.code-index l.codes
