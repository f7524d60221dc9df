use Rattle.std.proofs.Common.{◌∙◌, refl, subst, sym, ℕ}
use Rattle.std.specs.Prelude.{Option}
use Rattle.std.proofs.lemmas.List.Elements.{All-contains}
use Rattle.lan_manifest.specs.Versions.{IsListed, IsVersion}
use Rattle.lan_read.specs.Opening.{IsAskedFor}
use Rattle.lan_read.proofs.Newest.{newest_last}
use Rattle.lan_read.proofs.OpenedVersions.{has_it, lacks}
use Rattle.lan_read.proofs.snapshot.choose.Goals as goal

pub returns-in-None-clause-chosen : goal.returns-in-None-clause-chosen
returns-in-None-clause-chosen c = λ all listed.
    subst (λ (asked : Option ℕ). IsAskedFor all asked c.in-Some.newest) (sym c.in-None.is) (rw c.in-Some.is at (newest_last all c.args.versions.now c.copied.result listed (c.copied.ensures ∙ c.last.ensures.value)))

pub returns-else-has-clause-refused : goal.returns-else-has-clause-refused
returns-else-has-clause-refused c = λ all listed. (
  c.in-Some-asked.is,
  λ there. lacks c.args.versions.now c.in-Some-asked.version (sym c.has.ensures ∙ c.if-has.false) (listed.all c.in-Some-asked.version there),
  rw c.in-Some.is at (newest_last all c.args.versions.now c.copied.result listed (c.copied.ensures ∙ c.last.ensures.value)),
)

pub returns-then-has-clause-chosen : goal.returns-then-has-clause-chosen
returns-then-has-clause-chosen c = λ all listed.
    let is = has_it c.args.versions.now c.in-Some-asked.version (sym c.has.ensures ∙ c.if-has.true) in
    subst (λ (asked : Option ℕ). IsAskedFor all asked c.in-Some-asked.version) (sym c.in-Some-asked.is) (All-contains (IsListed all) c.args.versions.now c.in-Some-asked.version listed.only is, refl)

pub returns-then-has-clause-version : goal.returns-then-has-clause-version
returns-then-has-clause-version c = All-contains IsVersion c.args.versions.now c.in-Some-asked.version c.requires (has_it c.args.versions.now c.in-Some-asked.version (sym c.has.ensures ∙ c.if-has.true))
