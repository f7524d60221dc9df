use Rattle.std.proofs.Common.{List, subst, inl, inr, arith, ◌≤◌, ◌≡◌, length}
use Rattle.lan_manifest.specs.declared.keeping.TheConstants.{FRAGMENT_RULES}
use Rattle.lan_manifest.specs.declared.said.SaidFragment.{SaidFragment}
use Rattle.lan_manifest.specs.FragmentRules.{BreakOne, HaveIds}
use Rattle.lan_manifest.specs.ManifestObjects.{unknown_flags}
use Rattle.lan_manifest.specs.SchemaLeaves.{shape_in}
use Rattle.lan_manifest.proofs.Breaking.{rule_breaks}
use Rattle.lan_manifest.proofs.keeping.judge.Goals as goal

pub returns-in-Err-clause-fault : goal.returns-in-Err-clause-fault
returns-in-Err-clause-fault c =
    let said = c.args.said.now in
    let shape = shape_in c.args.schema.now in
    let numbered : said.version ≡ c.args.version = omega (arith, c.if-said-version.false) in
    let flags : unknown_flags said.flags ≡ 0 = omega (arith, c.if-unknown-ne0.false) in
    let few : length said.fragments ≤ 65536 = omega (arith, c.if-len-gt-MAX_FRAGMENTS.false, c.len.ensures) in
    let ids = rw c.in_default.is at c.in_ok-id.ensures.none in
    elim c.in-Err.ensures.fault [
      | inl memory ↦ inl memory
      | inr breaks ↦ inr (rule_breaks c.args.version shape said c.in-Err.fault numbered flags few (subst (λ (fs : List SaidFragment). HaveIds fs) c.as_slice-fragments.ensures ids) (subst (λ (fs : List SaidFragment). BreakOne FRAGMENT_RULES shape fs c.in-Err.fault) c.as_slice-fragments.ensures breaks))
    ]
