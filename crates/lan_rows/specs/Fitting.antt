-- The values that a type takes.
use Rattle.std.specs.Prelude.{ℕ, List, Bool}
use Rattle.lan_model.specs.Plain.{PlainType, field, PlainValue}
use Rattle.lan_model.specs.Fits.{Fits}

-- a field of the type takes the value, whatever its name
abbrev pub FitsType : PlainType ℕ → PlainValue → Type 0
FitsType ty v = (id : ℕ) (name : List ℕ) (nullable : Bool) → Fits (field id name nullable ty) v
