use Rattle.std.proofs.Common.{◌≡◌, ◌≤◌, take, count_by}
use Rattle.lan_meta.specs.Written.{is_list}
use Rattle.lan_meta.proofs.writing.lists_of.Given as goal

abbrev pub invariant-loop-code : goal.invariant-loop-code
invariant-loop-code l = (l.count ≡ count_by is_list (take l.code-index l.codes)) × (l.count ≤ l.code-index)
