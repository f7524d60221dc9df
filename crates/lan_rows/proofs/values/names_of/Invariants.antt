use Rattle.std.proofs.Common.{◌≡◌, ℕ, List, drop}
use Rattle.std.specs.Prelude.{◌||◌, is_some}
use Rattle.std.specs.BTreeMap.{get_by}
use Rattle.std.specs.Cmp.Lexicographic.{slice_cmp}
use Rattle.std.specs.Ordering.{nat_cmp}
use Rattle.lan_model.specs.Plain.{plain_fields}
use Rattle.lan_rows.specs.Values.{is_name}
use Rattle.lan_rows.proofs.values.names_of.Given as goal

abbrev pub invariant-loop-field : goal.invariant-loop-field
invariant-loop-field l = (key : List ℕ) → (is_some (get_by (λ name. slice_cmp nat_cmp key name.now) l.names) || is_name key (plain_fields (drop l.field-index l.fields))) ≡ is_name key (plain_fields l.fields)
