use Rattle.std.proofs.Common.{◌≡◌, take}
use Rattle.lan_manifest.proofs.copying.copy_fragment.Given as goal

abbrev pub invariant-loop-file : goal.invariant-loop-file
invariant-loop-file l = l.files ≡ take l.file-index l.file-items
