use Rattle.std.proofs.Common.{◌∙◌, ◌-◌, ap, length, List, ℕ}
use Rattle.std.specs.Prelude.{slice_get}
use Rattle.lan_read.proofs.Newest.{newest_last}
use Rattle.lan_read.proofs.versions.newest_version.Goals as goal

pub returns-clause-newest : goal.returns-clause-newest
returns-clause-newest g c = λ all told.
    newest_last all c.in_ok-versions.versions c.copied.result (c.in_ok-versions.ensures.versions all told)
    (c.copied.ensures ∙ c.last.ensures.value ∙ ap (λ (l : List ℕ). slice_get l (length l - 1)) c.as_slice.ensures)
