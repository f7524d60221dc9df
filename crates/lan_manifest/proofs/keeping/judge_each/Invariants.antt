use Rattle.std.proofs.Common.{drop}
use Rattle.lan_manifest.specs.declared.fault.ManifestFault.{ManifestFault}
use Rattle.lan_manifest.specs.FragmentRules.{KeepEach, BreakOne}
use Rattle.lan_manifest.specs.SchemaLeaves.{shape_in}
use Rattle.lan_manifest.proofs.keeping.judge_each.Given as goal

abbrev pub invariant-loop-rule : goal.invariant-loop-rule
invariant-loop-rule l = record {
  kept : KeepEach (drop l.rule-index l.rules) (shape_in l.schema) l.fragments → KeepEach l.rules (shape_in l.schema) l.fragments;
  broken : (fault : ManifestFault) → BreakOne (drop l.rule-index l.rules) (shape_in l.schema) l.fragments fault → BreakOne l.rules (shape_in l.schema) l.fragments fault;
}
