-- What of the manifests is read so far; removing a line here widens the promise.
use Rattle.std.specs.Prelude.{ℕ, Bool, false}

-- deletion files: none of any type is read
abbrev pub is_read_type : ℕ → Bool
is_read_type kind = false
