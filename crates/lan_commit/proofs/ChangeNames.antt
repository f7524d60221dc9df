-- The names of a change's objects aren't held.
use Rattle.std.proofs.Common.{◌≡◌, subst, ℕ, zero, suc, ◌+◌, ◌^◌, ◌<◌, List, [], ◌∷◌, ◌++◌, length, arith, append-nil}
use Rattle.std.specs.Prelude.{Option, None, IsSome}
use Rattle.lan_store.specs.declared.name.Object.{Object}
use Rattle.lan_store.specs.Objects.{object}
use Rattle.lan_store.specs.PutsAll.{IsHeldAt}
use Rattle.lan_fresh.specs.Fresh.{fresh_file}
use Rattle.lan_fresh.proofs.LawTerms.{fresh_is_free}
use Rattle.lan_manifest.specs.Manifests.{PlainManifest, manifest_object}
use Rattle.lan_manifest.specs.Versions.{IsListed, IsVersion, manifest_name}
use Rattle.lan_read.specs.Snapshots.{IsNewestManifest}
use Rattle.lan_commit.specs.Change.{Change, create, append, restore, manifest_after, next_of}
use Rattle.lan_commit.specs.ChangePuts.{data_object, limit_of, puts_of}
use Rattle.lan_commit.specs.Limits.{bytes_limit}
use Rattle.lan_commit.specs.Makes.{ComesAfter}
use Rattle.lan_commit.proofs.ChangeStands.{files_nothing}
use Rattle.lan_commit.proofs.ListedMore.{ListNothing, listed_before}
use Rattle.lan_commit.proofs.NoLimit.{no_limit_reached, no_version_limit}

held_none : (o : Option (List ℕ)) → o ≡ None → IsSome o → ⊥
held_none o none held = absurd (cc (none, held))

-- the next version isn't held, nor with data files more
manifest_free : (objects files : List Object) (version : ℕ) → ListNothing files → IsVersion version → ((w : ℕ) → IsListed objects w → w < version) → IsSome (object (objects ++ files) (manifest_name version)) → ⊥
manifest_free objects files version none is_version later held = let at = later version (is_version, listed_before objects files version none held) in omega (arith, at)

alone : (objects : List Object) (o : Object) (k : ℕ) → (IsSome (object (objects ++ []) o.name) → ⊥) → k < length (o ∷ []) → IsHeldAt k (o ∷ []) objects → ⊥
alone objects o zero free below held = free held
alone objects o (suc k) free below held = absurd (omega (arith, below))

two : (objects : List Object) (file o : Object) (k : ℕ) → object objects file.name ≡ None → (IsSome (object (objects ++ file ∷ []) o.name) → ⊥) → k < length (file ∷ o ∷ []) → IsHeldAt k (file ∷ o ∷ []) objects → ⊥
two objects file o zero none free below held = held_none (object objects file.name) none (subst (λ (l : List Object). IsSome (object l file.name)) (append-nil objects) held)
two objects file o (suc zero) none free below held = free held
two objects file o (suc (suc k)) none free below held = absurd (omega (arith, below))

-- the next version is later than all that are listed
next_later : (objects : List Object) (m : PlainManifest) → IsNewestManifest objects m → (w : ℕ) → IsListed objects w → w < m.version + 1
next_later objects m is w listed = let at = is.newest.newest w listed in omega (arith, at)

-- and its number is small enough
next_version : (m : PlainManifest) → m.version + 1 < 2 ^ 53 → IsVersion (m.version + 1)
next_version m small = (omega arith, small)

pub change_named : (objects : List Object) (change : Change) (k : ℕ) → ComesAfter objects change → limit_of objects change ≡ None → k < length (puts_of objects change) → IsHeldAt k (puts_of objects change) objects → ⊥
change_named objects (create fields) k after none = alone objects (manifest_object (manifest_after objects (create fields))) k (manifest_free objects [] 1 tt (omega arith, omega arith) (λ w listed. absurd (after w listed)))
change_named objects (append newest []) k after none =
    let change = append newest [] in
    let small = no_version_limit newest (bytes_limit (puts_of objects change)) none in
    alone objects (manifest_object (next_of newest)) k (manifest_free objects [] (newest.version + 1) tt (next_version newest small.0) (next_later objects newest after))
change_named objects (append newest (row ∷ rows)) k after none =
    let change = append newest (row ∷ rows) in
    let limits = no_limit_reached objects newest (length rows) (bytes_limit (puts_of objects change)) none in
    let file = data_object (fresh_file objects) newest.fields (row ∷ rows) in
    two objects file (manifest_object (manifest_after objects change)) k (fresh_is_free objects limits.3)
    (manifest_free objects (file ∷ []) (newest.version + 1) (files_nothing objects change) (next_version newest limits.2) (next_later objects newest after))
change_named objects (restore newest old) k after none =
    let change = restore newest old in
    let small = no_version_limit newest (bytes_limit (puts_of objects change)) none in
    alone objects (manifest_object (manifest_after objects change)) k (manifest_free objects [] (newest.version + 1) tt (next_version newest small.0) (next_later objects newest after))
