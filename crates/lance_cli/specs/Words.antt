-- What is decided before any call of the store.
use Rattle.std.specs.Prelude.{◌≡◌, ◌⊎◌, ℕ, Result, Err}
use Rattle.lan_store.specs.Telling.{Telling}
use Rattle.lance_cli.specs.Causes.{BadWords}
use Rattle.lance_cli.specs.Commands.{Asked}
use Rattle.lance_cli.specs.declared.fault.Fault.{Fault}
use Rattle.lance_cli.specs.declared.fault.Fault.TheVariants as fault

-- what a command's own words decide, which have this line
abbrev pub ByWords : Asked → ℕ → Fault → Type 0
ByWords asked line (fault.BadInput number why) = BadWords asked line (fault.BadInput number why)
ByWords asked line f = ⊥

-- where the words decide, that is the answer, or want of memory, and the store isn't asked for anything
abbrev pub WordsFirst : {A : Type 0} → Asked → ℕ → Telling → Telling → Result A Fault → Type 0
WordsFirst asked line before now result = (f : Fault) → ByWords asked line f → (now ≡ before) × ((result ≡ Err f) ⊎ (result ≡ Err fault.Memory))
