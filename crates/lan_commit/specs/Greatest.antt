-- The greatest fragment id that a change writes.
use Rattle.std.specs.Prelude.{ℕ, max, List, [], ◌++◌, map, Option, Some, None}
use Rattle.lan_fresh.specs.Fresh.{greatest_of, with_greatest}
use Rattle.lan_manifest.specs.Manifests.{PlainManifest}

-- the greater of what is known and one more
abbrev pub greater : Option ℕ → ℕ → ℕ
greater None id = id
greater (Some known) id = max known id

-- the ids of a manifest's fragments, and the greatest that it states
abbrev pub ids_of : PlainManifest → List ℕ
ids_of m = with_greatest m.greatest (map (λ f. f.id) m.fragments)

-- the same of the old manifest that a restore reads; no other change reads one
abbrev pub old_ids : Option PlainManifest → List ℕ
old_ids None = []
old_ids (Some m) = ids_of m

-- the greatest of the new fragments' ids, of the newest manifest's and of the old one's; none where there is none of these
abbrev pub greatest_written : PlainManifest → Option PlainManifest → List ℕ → Option ℕ
greatest_written newest old new = greatest_of (new ++ (ids_of newest ++ old_ids old))
