use Rattle.std.proofs.Common.{◌≡◌, ◌↔◌, List, sym, subst, inl, inr, arith}
use Rattle.std.specs.Prelude.{All, IsTrue, IfOk}
use Rattle.std.proofs.lemmas.Result.{IfOk-weaker}
use Rattle.lan_manifest.specs.declared.keeping.FragmentRule.{FragmentRule}
use Rattle.lan_manifest.specs.declared.keeping.FragmentRule.TheVariants.{Absent}
use Rattle.lan_manifest.specs.declared.said.SaidFile.{SaidFile}
use Rattle.lan_manifest.specs.FragmentRules.{listed_ids, is_whole, may_lack, Keeps}
use Rattle.lan_manifest.specs.SchemaLeaves.{is_listed, shape_in}
use Rattle.lan_manifest.proofs.keeping.keeps.Goals as goal

pub returns-in-PartField : goal.returns-in-PartField
returns-in-PartField c =
    let whole = subst (λ (fs : List SaidFile). IfOk c.give_whole.result (λ kept. IsTrue kept ↔ All (λ top. IsTrue (is_whole (is_listed (listed_ids fs)) top)) c.args.schema.now.tops)) c.as_slice-files.ensures c.give_whole.ensures in
    subst (λ (rule : FragmentRule). IfOk c.give_whole.result (λ kept. IsTrue kept ↔ Keeps rule (shape_in c.args.schema.now) c.args.fragment.now)) (sym c.in-PartField.is) whole

pub returns-else-fragment-eq0 : goal.returns-else-fragment-eq0
returns-else-fragment-eq0 c =
    let f = c.args.fragment.now in
    let shape = shape_in c.args.schema.now in
    let needed = subst (λ (fs : List SaidFile). IfOk c.give_needed.result (λ kept. IsTrue kept ↔ All (λ top. IsTrue (may_lack (is_listed (listed_ids fs)) top)) c.args.schema.now.tops)) c.as_slice-files.ensures c.give_needed.ensures in
    let kept =
    IfOk-weaker c.give_needed.result (λ kept. IsTrue kept ↔ All (λ top. IsTrue (may_lack (is_listed (listed_ids f.files)) top)) c.args.schema.now.tops) (λ kept. IsTrue kept ↔ Keeps Absent shape f)
    (λ kept p. ((λ t. inr (p.0 t)), (λ w. elim w [ inl none ↦ absurd (omega (arith, none, c.if-fragment-eq0.false)) | inr all ↦ p.1 all ])))
    needed in
    subst (λ (rule : FragmentRule). IfOk c.give_needed.result (λ kept. IsTrue kept ↔ Keeps rule shape f)) (sym c.in-Absent.is) kept
