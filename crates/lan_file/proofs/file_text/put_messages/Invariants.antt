use Rattle.std.proofs.Common.{◌≡◌, ◌++◌, drop, length}
use Rattle.std.specs.List.{concat}
use Rattle.lan_file.specs.FileText.{entries_from}
use Rattle.lan_file.proofs.file_text.put_messages.Given as goal

abbrev pub invariant-loop-message : goal.invariant-loop-message
invariant-loop-message l = record {
  table : l.table ++ entries_from (length l.out) (drop l.message-index l.messages) ≡ entries_from (length l.initial.out) l.messages;
  bytes : l.out ++ concat (drop l.message-index l.messages) ≡ l.initial.out ++ concat l.messages;
}
