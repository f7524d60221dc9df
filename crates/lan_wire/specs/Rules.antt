-- What a message takes, by the number of an item.
use Rattle.std.specs.Prelude.{ℕ, cond, nat_eq, List, [], ◌∷◌}
use Rattle.lan_wire.specs.declared.rules.Kind.{Kind}
use Rattle.lan_wire.specs.declared.rules.Kind.TheVariants.{Past, Refused}
use Rattle.lan_wire.specs.declared.rules.Rule.{Rule}

-- the kinds of the numbers that a message knows, and that of all others
pub record Rules : Type 0 where
  pub listed : List Rule
  pub others : Kind

-- a message whose other numbers are read past
abbrev pub open_to : List Rule → Rules
open_to listed = record { listed = listed; others = Past }

-- a message that takes no other number
abbrev pub closed_to : List Rule → Rules
closed_to listed = record { listed = listed; others = Refused }

-- the kind of a number, by the first rule of it
abbrev pub kind_in : List Rule → Kind → ℕ → Kind
kind_in [] others number = others
kind_in (rule ∷ listed) others number = cond (nat_eq rule.0 number) rule.1 (kind_in listed others number)

abbrev pub kind_at : Rules → ℕ → Kind
kind_at rules number = kind_in rules.listed rules.others number
