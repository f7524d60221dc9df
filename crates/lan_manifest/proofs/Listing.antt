-- The versions of a list of names, gathered name by name.
use Rattle.std.proofs.Common.{◌≡◌, ◌≢◌, inl, inr, refl, sym, ◌∙◌, ap, subst, ℕ, ◌+◌, ◌<◌, List, length, get_or, arith, Bool, true, false, cond}
use Rattle.std.specs.Prelude.{Contains, codes, decimal, eqb}
use Rattle.std.specs.Ordering.{nat_cmp}
use Rattle.std.specs.Cmp.{unsigned_tied, nat_cmp_total}
use Rattle.std.specs.BTreeSet.{BTreeSet, contains, IsOrdered}
use Rattle.std.specs.BTreeMap.{is_at}
use Rattle.std.proofs.lemmas.Bool.{cases_eq, cases_lt}
use Rattle.std.proofs.lemmas.Bool.Decides.{nat_tests}
use Rattle.std.proofs.lemmas.List.{append_cancel_right, get_or_default}
use Rattle.std.proofs.lemmas.Map.Lookups.{exact_unsigned}
use Rattle.std.proofs.lemmas.Map.Keys.{below_from_sorted}
use Rattle.std.proofs.lemmas.Map.Views.{All-set_contains, btree_set_contains_iff}
use Rattle.std.proofs.lemmas.Fmt.{decimal_injective}
use Rattle.lan_store.specs.declared.name.Dir.TheVariants.{Versions}
use Rattle.lan_store.specs.declared.name.Name.{Name}
use Rattle.lan_store.specs.declared.name.Object.{Object}
use Rattle.lan_store.specs.Objects.{IsListing}
use Rattle.lan_store.proofs.LawTerms.{listing_has}
use Rattle.lan_manifest.specs.Versions.{IsVersion, manifest_name, AreListed, AreVersionsOf}

pub manifest_name_injective : (v w : ℕ) → IsVersion v → IsVersion w → manifest_name v ≡ manifest_name w → v ≡ w
manifest_name_injective v w is_v is_w same =
    decimal_injective v w (omega arith) (omega arith) (append_cancel_right (decimal v) (decimal w) (codes ".manifest") (ap (λ (n : Name). n.rest) same))

-- has tells the versions of the first i names
pub record Reads (names : List Name) (i : ℕ) (has : ℕ → Bool) : Type 0 where
  pub only : (v : ℕ) → has v ≡ true → IsVersion v × ((k : ℕ) × (k < i) × (get_or names k (manifest_name v) ≡ manifest_name v))
  pub all : (v k : ℕ) → k < i → IsVersion v → get_or names k (manifest_name v) ≡ manifest_name v → has v ≡ true

pub reads_one : (names : List Name) (i : ℕ) (has more : ℕ → Bool) (name : Name) (v : ℕ) → Reads names i has → i < length names → name ≡ get_or names i name
    → IsVersion v → name ≡ manifest_name v → ((q : ℕ) → more q ≡ cond (is_at (nat_cmp v) q) true (has q)) → Reads names (i + 1) more
reads_one names i has more name v reads within at is_version is update = record {
  only = λ w tells. elim (cases_eq v w) [
    | inl same ↦ (subst IsVersion same is_version, (i, omega arith, get_or_default names i (manifest_name w) name within ∙ sym at ∙ is ∙ ap manifest_name same))
    | inr other ↦ let had = reads.only w (sym (old w other) ∙ tells) in (had.0, (had.1.0, omega (arith, had.1.1), had.1.2))
  ];
  all = λ w k below is_w there. elim (cases_lt k i) [
    | inl before ↦ update w ∙ always w (reads.all w k before is_w there)
    | inr past ↦
        let here : k ≡ i = omega arith in
        let named : name ≡ manifest_name w = at ∙ get_or_default names i name (manifest_name w) within ∙ ap (λ n. get_or names n (manifest_name w)) (sym here) ∙ there in
        let same = manifest_name_injective v w is_version is_w (sym is ∙ named) in
        update w ∙ ap (λ b. cond b true (has w)) (unsigned_tied v w) ∙ new w same
  ];
} where
  old : (w : ℕ) → (v ≡ w → ⊥) → more w ≡ has w
  old w other = update w ∙ ap (λ b. cond b true (has w)) (unsigned_tied v w) ∙ grind (arith, nat_tests)

  new : (w : ℕ) → v ≡ w → cond (eqb v w) true (has w) ≡ true
  new w same = grind (arith, nat_tests)

  always : (w : ℕ) → has w ≡ true → cond (is_at (nat_cmp v) w) true (has w) ≡ true
  always w had = elim (is_at (nat_cmp v) w) as (λ b. cond b true (has w) ≡ true) [ true ↦ refl | false ↦ had ]

pub reads_none : (names : List Name) (i : ℕ) (has : ℕ → Bool) (name : Name) → Reads names i has → i < length names → name ≡ get_or names i name
    → ((v : ℕ) → IsVersion v → name ≢ manifest_name v) → Reads names (i + 1) has
reads_none names i has name reads within at none = record {
  only = λ w tells. let had = reads.only w tells in (had.0, (had.1.0, omega (arith, had.1.1), had.1.2));
  all = λ w k below is_w there. elim (cases_lt k i) [
    | inl before ↦ reads.all w k before is_w there
    | inr past ↦
        let here : k ≡ i = omega arith in
        absurd (none w is_w (at ∙ get_or_default names i name (manifest_name w) within ∙ ap (λ n. get_or names n (manifest_name w)) (sym here) ∙ there))
  ];
}

-- the keys of a set of them
pub versions_of_set : (names : List Name) (set : BTreeSet ℕ) → IsOrdered nat_cmp set
    → ((v : ℕ) → contains nat_cmp set v ≡ true → IsVersion v × Contains names (manifest_name v))
    → ((v : ℕ) → IsVersion v → Contains names (manifest_name v) → contains nat_cmp set v ≡ true) → AreVersionsOf names set.keys
versions_of_set names set ordered only all = record {
  rising = λ k below. below_from_sorted set.keys k (k + 1) 0 ordered (omega arith) below;
  only = λ k d below. only (get_or set.keys k d) (All-set_contains nat_cmp_total set k d below);
  all = λ v is_version named. (btree_set_contains_iff nat_cmp_total exact_unsigned set v).0 (all v is_version named);
}

-- the versions of a listing are the listed ones
pub listed_versions : (all : List Object) (names : List Name) (versions : List ℕ) → IsListing Versions all names → AreVersionsOf names versions → AreListed all versions
listed_versions all names versions listing of_names = record {
  rising = of_names.rising;
  only = λ k d below. let one = of_names.only k d below in (one.0, ((listing_has Versions all names _ listing).0 one.1).1);
  all = λ v listed. of_names.all v listed.0 ((listing_has Versions all names (manifest_name v) listing).1 (refl, listed.1));
}
