use Rattle.std.proofs.Common.{inl, inr}
use Rattle.lan_manifest.specs.SchemaLeaves.{shape_in}
use Rattle.lan_manifest.proofs.Listed.{keep_front, keep_none, break_front, break_later}
use Rattle.lan_manifest.proofs.keeping.judge_each.Goals as goal

pub loop-rule-preserved : goal.loop-rule-preserved
loop-rule-preserved c =
    let shape = shape_in c.args.schema.now in
    record {
      kept = λ rest. c.loop-rule.invariant.kept (keep_front c.args.rules.now c.loop-rule.rule-index _ shape c.args.fragments.now c.loop-rule-test.true c.in-Ok.ensures.ok rest);
      broken = λ fault rest. c.loop-rule.invariant.broken fault (break_later c.args.rules.now c.loop-rule.rule-index _ shape c.args.fragments.now fault c.loop-rule-test.true c.in-Ok.ensures.ok rest);
    }

pub returns-in-Err-clause-fault : goal.returns-in-Err-clause-fault
returns-in-Err-clause-fault c =
    elim c.in-Err.ensures.fault [
      | inl memory ↦ inl memory
      | inr breaks ↦ inr (c.loop-rule.invariant.broken c.in-Err.fault (break_front c.args.rules.now c.loop-rule.rule-index _ (shape_in c.args.schema.now) c.args.fragments.now c.in-Err.fault c.loop-rule-test.true breaks))
    ]

pub returns-clause-ok : goal.returns-clause-ok
returns-clause-ok c = c.loop-rule.invariant.kept (keep_none c.args.rules.now c.loop-rule.rule-index (shape_in c.args.schema.now) c.args.fragments.now c.loop-rule-test.false)
