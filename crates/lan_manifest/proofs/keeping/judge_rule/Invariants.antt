use Rattle.std.proofs.Common.{ℕ, ◌<◌, get_or}
use Rattle.lan_manifest.specs.FragmentRules.{Keeps}
use Rattle.lan_manifest.specs.SchemaLeaves.{shape_in}
use Rattle.lan_manifest.specs.declared.said.SaidFragment.{SaidFragment}
use Rattle.lan_manifest.proofs.keeping.judge_rule.Given as goal

abbrev pub invariant-loop-fragment : goal.invariant-loop-fragment
invariant-loop-fragment l = (k : ℕ) (d : SaidFragment) → k < l.fragment-index → Keeps l.rule (shape_in l.schema) (get_or l.fragments k d)
