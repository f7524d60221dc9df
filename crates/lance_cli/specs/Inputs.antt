-- What a command reads of the input.
use Rattle.std.specs.Prelude.{◌≡◌, ℕ, ◌≤◌, ◌^◌, Bool, true, false, List, [], length, Vec, Option, Some, Result, Ok, Err}
use Rattle.std.specs.Option.{ForSome}
use Rattle.std.specs.declared.alloc.Global.{Global}
use Rattle.lan_store.specs.Streams.{TookOver, TookFront}
use Rattle.lance_cli.specs.declared.fault.Fault.{Fault}
use Rattle.lance_cli.specs.declared.fault.Fault.TheVariants as fault

-- the text is all that the input had, and it isn't too long
pub record IsInput (given left : Option (List ℕ)) (text : List ℕ) : Type 0 where
  pub all : ForSome given (λ all. (text ≡ all) × (left ≡ Some []))
  pub short : length text ≤ 2 ^ 28

-- the whole input was read, or why not
abbrev pub ReadsInput : Option (List ℕ) → Option (List ℕ) → Result (Vec ℕ Global) Fault → Type 0
ReadsInput given left (Ok text) = IsInput given left text.items
ReadsInput given left (Err fault.InputTooLong) = ForSome given (λ all. TookOver (2 ^ 28) all left)
ReadsInput given left (Err fault.ReadFault) = TookFront given left
ReadsInput given left (Err fault.Memory) = TookFront given left
ReadsInput given left (Err f) = ⊥

-- the whole input of a command that reads it; no byte is taken by any other
abbrev pub TakesText : Bool → Option (List ℕ) → Option (List ℕ) → Result (Vec ℕ Global) Fault → Type 0
TakesText true given left result = ReadsInput given left result
TakesText false given left (Ok text) = (text.items ≡ []) × (left ≡ given)
TakesText false given left (Err f) = ⊥
