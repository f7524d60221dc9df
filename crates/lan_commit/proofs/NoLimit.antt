-- What an append may count on where it reaches no limit.
use Rattle.std.proofs.Common.{◌≡◌, ℕ, suc, ◌+◌, ◌^◌, ◌<◌, List, length, arith, Bool, true, false, refl}
use Rattle.std.specs.Prelude.{Option, None, nat_le}
use Rattle.std.proofs.lemmas.Bool.Decides.{nat_tests}
use Rattle.lan_store.specs.declared.name.Object.{Object}
use Rattle.lan_fresh.specs.Fresh.{fresh_file, fresh_fragment}
use Rattle.lan_commit.specs.Limits.{reached, version_limit, fragment_limit, file_limit, append_limit}
use Rattle.lan_manifest.specs.Manifests.{PlainManifest}
use Rattle.lan_commit.specs.declared.limits.Which.{Which}

pub not_reached : (is : Bool) (which : Which) (number : ℕ) (later : Option (Which × ℕ)) → reached is which number later ≡ None → (is ≡ false) × (later ≡ None)
not_reached true which number later none = absurd (cc none)
not_reached false which number later none = (refl, none)

under : (most n : ℕ) → nat_le most n ≡ false → n < most
under most n e = grind (arith, nat_tests, e)

pub no_version_limit : (m : PlainManifest) (later : Option (Which × ℕ)) → version_limit m later ≡ None → (m.version + 1 < 2 ^ 53) × (later ≡ None)
no_version_limit m later none = let first = not_reached _ _ _ _ none in (under (2 ^ 53) (m.version + 1) first.0, first.1)

pub no_fragment_limit : (m : PlainManifest) (later : Option (Which × ℕ)) → fragment_limit m later ≡ None → (length m.fragments < 65536) × (fresh_fragment m < 2 ^ 32) × (m.version + 1 < 2 ^ 53) × (later ≡ None)
no_fragment_limit m later none =
    let first = not_reached _ _ _ _ none in
    let second = not_reached _ _ _ _ first.1 in
    let third = no_version_limit m later second.1 in
    (under 65536 (length m.fragments) first.0, under (2 ^ 32) (fresh_fragment m) second.0, third.0, third.1)

pub no_limit_reached : (objects : List Object) (m : PlainManifest) (rows : ℕ) (later : Option (Which × ℕ)) → append_limit objects m (suc rows) later ≡ None
    → (length m.fragments < 65536) × (fresh_fragment m < 2 ^ 32) × (m.version + 1 < 2 ^ 53) × (fresh_file objects < 2 ^ 53) × (later ≡ None)
no_limit_reached objects m rows later none =
    let numbers = no_fragment_limit m (file_limit objects later) none in
    let file = not_reached _ _ _ _ numbers.3 in
    (numbers.0, numbers.1, numbers.2, under (2 ^ 53) (fresh_file objects) file.0, file.1)
