use Rattle.std.proofs.Common.{◌≡◌, ◌++◌, take}
use Rattle.std.specs.Prelude.{flat_map}
use Rattle.lan_wire.specs.Spelling.{part_item}
use Rattle.lan_manifest.specs.Manifests.{file_text}
use Rattle.lan_manifest.proofs.writing.write_files.Given as goal

abbrev pub invariant-loop-file : goal.invariant-loop-file
invariant-loop-file l = l.out ≡ l.initial.out ++ flat_map (λ file. part_item 2 (file_text file)) (take l.file-index l.files)
