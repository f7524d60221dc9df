-- What is built is read.
use Rattle.std.specs.Prelude.{◌≡◌, ℕ, ◌+◌, ◌*◌, ◌/◌, ◌^◌, ◌<◌, Bool, List, length, map, All}
use Rattle.std.specs.List.{concat}
use Rattle.lan_levels.specs.PlainSlots.{bit, bytes}
use Rattle.lan_levels.specs.Values.{flat, bools, variable, ValuesOf}
use Rattle.lan_levels.specs.BuiltValues.{bool_bytes, variable_bytes}

-- the buffer that values of any length are put into is a buffer of these values
abbrev pub VariableIsRead : Type 0
VariableIsRead =
    (values : List (List ℕ)) → 4 * (length values + 1) + length (concat values) < 2 ^ 32 → ValuesOf variable (length values) (variable_bytes values) (map bytes values)

-- values of one width put one after another are a buffer of these values
abbrev pub FlatIsRead : Type 0
FlatIsRead =
    (width : ℕ) (values : List (List ℕ)) → All (λ v. length v ≡ width) values → ValuesOf (flat width) (length values) (concat values) (map bytes values)

-- the buffer that bools are put into is a buffer of these bools
abbrev pub BoolsAreRead : Type 0
BoolsAreRead = (values : List Bool) → ValuesOf bools (length values) (bool_bytes ((length values + 7) / 8) values) (map bit values)
