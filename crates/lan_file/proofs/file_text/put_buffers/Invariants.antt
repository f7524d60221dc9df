use Rattle.std.proofs.Common.{◌≡◌, ◌++◌, drop}
use Rattle.lan_file.specs.FileText.{with_buffers, places_behind}
use Rattle.lan_file.proofs.file_text.put_buffers.Given as goal

abbrev pub invariant-loop-buffer : goal.invariant-loop-buffer
invariant-loop-buffer l = record {
  places : l.places ++ places_behind l.out (drop l.buffer-index l.buffers) ≡ places_behind l.initial.out l.buffers;
  bytes : with_buffers l.out (drop l.buffer-index l.buffers) ≡ with_buffers l.initial.out l.buffers;
}
