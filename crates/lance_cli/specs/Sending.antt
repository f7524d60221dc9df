-- How the lines of rows go to a sink, by way of bytes that wait for the next write.
use Rattle.std.specs.Prelude.{◌≡◌, ℕ, List, ◌++◌, flat_map, Option, Result, Ok, Err}
use Rattle.lan_model.specs.Plain.{PlainValue}
use Rattle.lan_store.specs.Streams.{and_then_bytes}
use Rattle.lance_cli.specs.Reports.{GotPart}
use Rattle.lance_cli.specs.declared.fault.Fault.{Fault}
use Rattle.lance_cli.specs.declared.fault.Fault.TheVariants.{WriteFault, Memory}

-- of the rows whose lines were waiting and those behind them the sink got the lines of the first, and the others are the rest
pub record Sends (line : List PlainValue → List ℕ) (rows pending : List (List PlainValue)) (held holds : Option (List ℕ)) (rest : List (List PlainValue)) : Type 0 where
  pub sent : List (List PlainValue)
  pub grew : holds ≡ and_then_bytes held (flat_map line sent)
  pub whole : sent ++ rest ≡ pending ++ rows

-- and the lines of the rest are waiting
pub record Waits (line : List PlainValue → List ℕ) (rows pending : List (List PlainValue)) (held holds : Option (List ℕ)) (waiting : List ℕ) : Type 0 where
  pub rest : List (List PlainValue)
  pub sends : Sends line rows pending held holds rest
  pub lines : waiting ≡ flat_map line rest

-- the lines of rows were passed on behind those that waited; only a failed write cuts a line
abbrev pub Passes : (List PlainValue → List ℕ) → List (List PlainValue) → List (List PlainValue) → List ℕ → Option (List ℕ) → Option (List ℕ) → Result Unit Fault → Type 0
Passes line rows pending waiting held holds (Ok _) = Waits line rows pending held holds waiting
Passes line rows pending waiting held holds (Err WriteFault) = GotPart (flat_map line (pending ++ rows)) held holds
Passes line rows pending waiting held holds (Err Memory) = (rest : List (List PlainValue)) × Sends line rows pending held holds rest
Passes line rows pending waiting held holds (Err f) = ⊥
