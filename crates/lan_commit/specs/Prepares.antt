-- What the steps of preparing a change answer.
use Rattle.std.specs.Prelude.{◌≡◌, ℕ, ⊤, List, Option, Some, None, Result, Ok, Err}
use Rattle.lan_store.specs.declared.name.Object.{Object}
use Rattle.lan_fresh.specs.Fresh.{fresh_file}
use Rattle.lan_commit.specs.Limits.{file_limit}
use Rattle.lan_commit.specs.declared.limits.Which.{Which}
use Rattle.lan_commit.specs.declared.committing.CommitFault.{CommitFault}
use Rattle.lan_commit.specs.declared.committing.CommitFault.TheVariants.{AlreadyThere, Limit, Raced, Store, Memory}

-- an Ok where no limit is reached, and else that limit
abbrev pub JudgesLimit : {A : Type 0} → Option (Which × ℕ) → (A → Type 0) → Result A CommitFault → Type 0
JudgesLimit limit Holds (Ok answer) = (limit ≡ None) × Holds answer
JudgesLimit limit Holds (Err (AlreadyThere version)) = ⊥
JudgesLimit limit Holds (Err (Limit which number)) = limit ≡ Some (which, number)
JudgesLimit limit Holds (Err (Raced name)) = ⊥
JudgesLimit limit Holds (Err (Store name)) = ⊤
JudgesLimit limit Holds (Err Memory) = ⊤

-- the number of a new data file, where it is below the limit
abbrev pub DrawsFile : List Object → Result ℕ CommitFault → Type 0
DrawsFile objects result = JudgesLimit (file_limit objects None) (λ number. number ≡ fresh_file objects) result

-- a limit, the store and want of memory are all that stop it, also where the store doesn't tell its objects
abbrev pub StopsRightly : {A : Type 0} → Result A CommitFault → Type 0
StopsRightly (Ok answer) = ⊤
StopsRightly (Err (AlreadyThere version)) = ⊥
StopsRightly (Err (Limit which number)) = ⊤
StopsRightly (Err (Raced name)) = ⊥
StopsRightly (Err (Store name)) = ⊤
StopsRightly (Err Memory) = ⊤
