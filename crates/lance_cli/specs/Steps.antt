-- What is behind a run on any folder: the commands that had their turn, each with its answer and its puts.
use Rattle.std.specs.Prelude.{◌≡◌, ⊤, List, [], ◌∷◌, IsTrue, map, flat_map, ℕ, Option, Result, Ok, Err}
use Rattle.lan_store.specs.Objects.{and_then}
use Rattle.lan_store.specs.declared.name.Object.{Object}
use Rattle.lance_cli.specs.Causes.{Cause}
use Rattle.lance_cli.specs.Commands.{Request}
use Rattle.lance_cli.specs.Puts.{IsAccepted}
use Rattle.lance_cli.specs.Replies.{Mode, goes_on, text_by}
use Rattle.lance_cli.specs.declared.fault.Fault.{Fault}

-- a command that had its turn: what was requested, the text or the refusal that it was answered, and what it put
pub record Step : Type 0 where
  pub request : Request
  pub answer : Result (List ℕ) Fault
  pub puts : List Object

-- an accepted command put its objects and gave its text; one that is refused has a cause on these objects, and put none
abbrev pub IsAnswered : Option (List Object) → Request → List Object → Result (List ℕ) Fault → Type 0
IsAnswered objects r puts (Ok text) = IsAccepted objects r puts text
IsAnswered objects r puts (Err f) = Cause objects r f × (puts ≡ [])

-- commands that had their turn one after another, each on the objects that those before it left, and none of which ends the list
abbrev pub Trail : Mode → Option (List Object) → List Step → Type 0
Trail mode objects [] = ⊤
Trail mode objects (step ∷ steps) = IsAnswered objects step.request step.puts step.answer × IsTrue (goes_on mode step.answer) × Trail mode (and_then objects step.puts) steps

abbrev pub requests_in : List Step → List Request
requests_in steps = map (λ step. step.request) steps

abbrev pub put_in : List Step → List Object
put_in steps = flat_map (λ step. step.puts) steps

abbrev pub said_in : Mode → List Step → List ℕ
said_in mode steps = flat_map (λ step. text_by mode step.answer) steps
