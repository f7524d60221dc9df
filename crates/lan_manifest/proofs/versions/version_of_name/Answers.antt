use Rattle.std.proofs.Common.{sym, ◌∙◌, ap, arith, ◌++◌}
use Rattle.std.specs.Prelude.{codes}
use Rattle.lan_manifest.proofs.Texts.{same_number}
use Rattle.lan_manifest.proofs.versions.version_of_name.Goals as goal

pub returns-then-version-eq0-clause-none : goal.returns-then-version-eq0-clause-none
returns-then-version-eq0-clause-none c = λ version is_version same.
    let ends = c.in_ok-digits.ensures.cases in
    let digits = ends.1.1 ∙ ap (λ l. l ++ codes ".manifest") (sym ends.2) in
    let is = same_number c.in_ok-version.version version c.as_str.result.now c.in_ok-digits.digits.now (codes ".manifest") digits
    c.in_ok-version.ensures.some (omega arith) (omega arith) (c.as_str.ensures.value ∙ ap (λ n. n.rest) same) in
    omega (arith, is, c.then-version-eq0.either)
