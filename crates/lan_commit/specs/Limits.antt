-- The limits that a change reaches on the objects.
use Rattle.std.specs.Prelude.{ℕ, zero, suc, ◌+◌, ◌^◌, List, length, Bool, cond, nat_le, nat_lt, Option, Some, None}
use Rattle.std.specs.List.{list_any}
use Rattle.lan_store.specs.declared.name.Object.{Object}
use Rattle.lan_fresh.specs.Fresh.{fresh_file, fresh_fragment}
use Rattle.lan_manifest.specs.Manifests.{PlainManifest}
use Rattle.lan_commit.specs.declared.limits.Which.{Which}
use Rattle.lan_commit.specs.declared.limits.Which.TheVariants as limit

-- the limit with its number, where it is reached, and else what comes later
abbrev pub reached : Bool → Which → ℕ → Option (Which × ℕ) → Option (Which × ℕ)
reached is which number later = cond is (Some (which, number)) later

abbrev pub version_limit : PlainManifest → Option (Which × ℕ) → Option (Which × ℕ)
version_limit m later = reached (nat_le (2 ^ 53) (m.version + 1)) limit.Version (2 ^ 53) later

-- the first limit of a number that a manifest with one fragment more reaches
abbrev pub fragment_limit : PlainManifest → Option (Which × ℕ) → Option (Which × ℕ)
fragment_limit m later =
    reached (nat_le 65536 (length m.fragments)) limit.Fragments 65536
    (reached (nat_le (2 ^ 32) (fresh_fragment m)) limit.FragmentId (2 ^ 32)
    (version_limit m later))

abbrev pub file_limit : List Object → Option (Which × ℕ) → Option (Which × ℕ)
file_limit objects later = reached (nat_le (2 ^ 53) (fresh_file objects)) limit.FileNumber (2 ^ 53) later

-- the first limit of a number that an append of so many rows reaches; without a row it draws a version alone
abbrev pub append_limit : List Object → PlainManifest → ℕ → Option (Which × ℕ) → Option (Which × ℕ)
append_limit objects m zero later = version_limit m later
append_limit objects m (suc rows) later = fragment_limit m (file_limit objects later)

-- the limit of an object's bytes, of objects that are to be put
abbrev pub bytes_limit : List Object → Option (Which × ℕ)
bytes_limit os = reached (list_any (λ o. nat_lt (2 ^ 30) (length o.bytes)) os) limit.ObjectBytes (2 ^ 30) None
