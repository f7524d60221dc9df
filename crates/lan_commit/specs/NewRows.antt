-- The rows of what is to be appended.
use Rattle.std.specs.Prelude.{ℕ, List}
use Rattle.lan_model.specs.Leaves.{plain_leaves}
use Rattle.lan_model.specs.Plain.{PlainField, PlainValue}
use Rattle.lan_commit.specs.Shredded.{Shredded, AreRows}
use Rattle.lan_commit.specs.declared.new_rows.NewRows.{NewRows}

abbrev pub kept_of : NewRows → Shredded
kept_of n = record { leaves = plain_leaves n.leaves; columns = n.columns; count = n.count }

-- how many there are
abbrev pub count_of : NewRows → ℕ
count_of n = n.count

-- they are these rows, of these fields
abbrev pub HasRows : List (PlainField ℕ) → List (List PlainValue) → NewRows → Type 0
HasRows fields rows n = AreRows fields rows (kept_of n)
