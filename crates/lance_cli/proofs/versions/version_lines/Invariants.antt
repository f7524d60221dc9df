use Rattle.std.proofs.Common.{◌≡◌, take}
use Rattle.std.specs.Prelude.{string_bytes}
use Rattle.lance_cli.specs.Reports.{versions_text}
use Rattle.lance_cli.proofs.versions.version_lines.Given as goal

abbrev pub invariant-loop-version : goal.invariant-loop-version
invariant-loop-version l = string_bytes l.text ≡ versions_text (take l.version-index l.listed)
