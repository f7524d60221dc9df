-- What of a version's objects is read so far; removing a line here widens the promise.
use Rattle.std.specs.Prelude.{ℕ, List}

-- no bytes are a deletion file, of so many physical rows, of which as many as are stated are deleted, and these are they
abbrev pub IsDeletionFile : List ℕ → ℕ → ℕ → List ℕ → Type 0
IsDeletionFile bytes physical stated deleted = ⊥
