-- The newest version of the objects.
use Rattle.std.specs.Prelude.{ℕ, List, Option, MatchOption}
use Rattle.lan_store.specs.declared.name.Object.{Object}
use Rattle.lan_manifest.specs.Versions.{IsNewest, NoneListed}

-- where no version is listed there is no newest
abbrev pub IsNewestOf : List Object → Option ℕ → Type 0
IsNewestOf all newest = MatchOption newest (NoneListed all) (IsNewest all)
