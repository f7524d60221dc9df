-- How deep a table's leaves may lie, and how many they may be.
use Rattle.std.specs.Prelude.{ℕ, ◌+◌, List, [], ◌∷◌, length, Bool, true, cond, ◌&&◌, nat_le, Ok, Err}
use Rattle.lan_model.specs.Plain.{list, struct, PlainField, field, PlainFields, no_fields, one_field, fields_from}
use Rattle.lan_model.specs.Table.{Column, all_depths}
use Rattle.lan_form.specs.declared.faults.FormFault.TheVariants.{TooDeep, TooManyLeaves}
use Rattle.lan_form.specs.Judged.{Judged}

-- no leaf has over 16 layers
abbrev pub are_shallow : List ℕ → Bool
are_shallow [] = true
are_shallow (depth ∷ depths) = nat_le depth 16 && are_shallow depths

-- the fields, where the leaves of these depths are neither too deep nor too many
abbrev pub within : List Column → Judged (List Column)
within columns =
    let depths = all_depths (fields_from columns) 0 in
    cond (are_shallow depths) (cond (nat_le (length depths) 1024) (Ok columns) (Err TooManyLeaves)) (Err TooDeep)

abbrev mutual
  -- how many leaves a field has
  pub leaves_in : {I : Type 0} → PlainField I → ℕ
  leaves_in (field id name nullable (list item)) = leaves_in item
  leaves_in (field id name nullable (struct members)) = all_leaves members
  leaves_in (field id name nullable ty) = 1

  pub all_leaves : {I : Type 0} → PlainFields I → ℕ
  all_leaves no_fields = 0
  all_leaves (one_field f fs) = leaves_in f + all_leaves fs
