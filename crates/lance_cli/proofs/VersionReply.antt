-- What is replied to a command that reads a version.
use Rattle.std.proofs.Common.{◌≡◌, inl, inr, refl, sym, ◌∙◌, ap, subst, ℕ, zero, suc, ◌-◌, ◌<◌, List, [], ◌∷◌, ◌++◌, length, map, arith, length-append, get_or, true, false}
use Rattle.std.specs.Prelude.{cond, Option, Some, None, option_map, option_and_then, slice_get, find, nat_eq, All}
use Rattle.std.specs.List.{list_any}
use Rattle.std.proofs.lemmas.Bool.{cases_Bool}
use Rattle.std.proofs.lemmas.Bool.Decides.{nat_tests}
use Rattle.std.proofs.lemmas.Option.{same_Some}
use Rattle.lan_model.specs.Dataset.{Dataset, newest, table_at}
use Rattle.lan_model.specs.Plain.{unnumbered}
use Rattle.lan_model.specs.Table.{Table}
use Rattle.lan_store.specs.declared.name.Object.{Object}
use Rattle.lan_manifest.specs.Manifests.{PlainManifest}
use Rattle.lan_manifest.specs.Versions.{IsListed, IsNewest, NoneListed}
use Rattle.lan_read.specs.Newest.{IsNewestOf}
use Rattle.lan_read.specs.Opening.{IsAskedFor}
use Rattle.lan_read.specs.Tables.{AgreesWith, HasManifest, StandsFor}
use Rattle.lan_read.proofs.LawTerms.{last_is, newest_is, none_is, one_manifest_held}
use Rattle.lance_cli.specs.Replies.{Outcome, refused, on_version}
use Rattle.lance_cli.specs.declared.fault.Fault.TheVariants.{NoDataset, NoVersion}

-- ---- the listed versions

pub newest_at : (old : List Object) (d : Dataset) (version : ℕ) → AgreesWith old d → IsNewest old version → newest d ≡ Some version
newest_at old d version agrees is = newest_is old d.listed version agrees.listed is

pub newest_none : (old : List Object) (d : Dataset) → AgreesWith old d → NoneListed old → newest d ≡ None
newest_none old d agrees none = ap (λ (l : List ℕ). slice_get l (length l - 1)) (none_is old d.listed agrees.listed none)

-- the newest, or that there is none
pub newest_listed : (old : List Object) (d : Dataset) (o : Option ℕ) → AgreesWith old d → newest d ≡ o → IsNewestOf old o
newest_listed old d o agrees is = subst (IsNewestOf old) is (last_is old d.listed agrees.listed)

pub some_newest : (old : List Object) (d : Dataset) (version : ℕ) → AgreesWith old d → IsListed old version → (n : ℕ) × (newest d ≡ Some n)
some_newest old d version agrees listed = go (newest d) refl where
  go : (o : Option ℕ) → newest d ≡ o → (n : ℕ) × (newest d ≡ Some n)
  go None none = absurd (newest_listed old d None agrees none version listed)
  go (Some n) is = (n, is)

one_there : (version : ℕ) (versions : List ℕ) (k : ℕ) → k < length versions → get_or versions k version ≡ version → list_any (nat_eq version) versions ≡ true
one_there version [] k below is = absurd (omega (arith, below))
one_there version (v ∷ vs) zero below is = let here : nat_eq version v ≡ true = grind (arith, nat_tests, is) in rw here refl
one_there version (v ∷ vs) (suc k) below is = elim (cases_Bool (nat_eq version v)) [
  | inl same ↦ rw same refl
  | inr other ↦ rw other (one_there version vs k (omega (arith, below)) is)
]

none_there : (version : ℕ) (versions : List ℕ) (P : ℕ → Type 0) → All P versions → (P version → ⊥) → list_any (nat_eq version) versions ≡ false
none_there version [] P each not = refl
none_there version (v ∷ vs) P each not = elim (cases_Bool (nat_eq version v)) [
  | inl same ↦ let here : v ≡ version = grind (arith, nat_tests, same) in absurd (not (subst P here (each 0 v (omega arith))))
  | inr other ↦ rw other (none_there version vs P (λ k d below. each (suc k) d (omega (arith, below))) not)
]

pub listed_there : (old : List Object) (listed : List ℕ) (version : ℕ) → All (IsListed old) listed → list_any (nat_eq version) listed ≡ true → IsListed old version
listed_there old [] version each there = absurd (cc there)
listed_there old (v ∷ vs) version each there = elim (cases_Bool (nat_eq version v)) [
  | inl same ↦ let here : v ≡ version = grind (arith, nat_tests, same) in subst (IsListed old) here (each 0 v (omega arith))
  | inr other ↦ listed_there old vs version (λ k d below. each (suc k) d (omega (arith, below))) (rw other at there)
]

pub is_among : (old : List Object) (d : Dataset) (version : ℕ) → AgreesWith old d → IsListed old version → list_any (nat_eq version) d.listed ≡ true
is_among old d version agrees listed = let at = agrees.listed.all version listed in one_there version d.listed at.0 at.1 at.2

pub not_among : (old : List Object) (d : Dataset) (version : ℕ) → AgreesWith old d → (IsListed old version → ⊥) → list_any (nat_eq version) d.listed ≡ false
not_among old d version agrees not = none_there version d.listed (IsListed old) agrees.listed.only not

-- ---- the tables

pub found : (old : List Object) (stands : List (ℕ × Table)) (version : ℕ) (t : Table) → All (λ p. StandsFor old p.0 p.1) stands → option_map (λ p. p.1) (find (λ p. nat_eq p.0 version) stands) ≡ Some t → StandsFor old version t
found old [] version t each at = absurd (cc at)
found old (p ∷ ps) version t each at = elim (cases_Bool (nat_eq p.0 version)) [
  | inl same ↦
      let here : p.0 ≡ version = grind (arith, nat_tests, same) in
      let table : p.1 ≡ t = same_Some p.1 t (rw same at at) in
      subst (λ v. StandsFor old v t) here (subst (StandsFor old p.0) table (each 0 p (omega arith)))
  | inr other ↦ found old ps version t (λ k d below. each (suc k) d (omega (arith, below))) (rw other at at)
]

-- the version stands for a table, and the reply is that to it
pub record Read (old : List Object) (d : Dataset) (version : ℕ) (read : Table → Option Outcome) (outcome : Outcome) : Type 0 where
  pub table : Table
  pub stands : StandsFor old version table
  pub at : table_at d version ≡ Some table
  pub reply : read table ≡ Some outcome

pub table_read : (old : List Object) (d : Dataset) (version : ℕ) (read : Table → Option Outcome) (outcome : Outcome) → AgreesWith old d → option_and_then read (table_at d version) ≡ Some outcome → Read old d version read outcome
table_read old d version read outcome agrees is = go (table_at d version) refl is where
  go : (o : Option Table) → table_at d version ≡ o → option_and_then read (table_at d version) ≡ Some outcome → Read old d version read outcome
  go None none given = absurd (cc (rw none at given))
  go (Some t) at given = record { table = t; stands = found old d.stands version t agrees.stands at; at = at; reply = rw at at given }

-- where there is a reply, the version that is asked for stands
pub version_read : (old : List Object) (d : Dataset) (asked : Option ℕ) (version : ℕ) (read : Table → Option Outcome) (outcome : Outcome) → AgreesWith old d → IsAskedFor old asked version → on_version d asked read (newest d) ≡ Some outcome → Read old d version read outcome
version_read old d None version read outcome agrees is_newest is = table_read old d version read outcome agrees (ap (on_version d None read) (sym (newest_at old d version agrees is_newest)) ∙ is)
version_read old d (Some number) version read outcome agrees (listed, same) is =
    let (n, last) = some_newest old d version agrees listed in
    let there : list_any (nat_eq number) d.listed ≡ true = ap (λ v. list_any (nat_eq v) d.listed) (sym same) ∙ is_among old d version agrees listed in
    table_read old d version read outcome agrees
    (ap (λ v. option_and_then read (table_at d v)) same
    ∙ sym (ap (λ b. cond b (option_and_then read (table_at d number)) (Some (refused (NoVersion number n)))) there)
    ∙ sym (ap (on_version d (Some number) read) last) ∙ is)

-- where none is listed, there is no dataset
pub none_replied : (old : List Object) (d : Dataset) (asked : Option ℕ) (read : Table → Option Outcome) (outcome : Outcome) → AgreesWith old d → NoneListed old → on_version d asked read (newest d) ≡ Some outcome → outcome ≡ refused NoDataset
none_replied old d asked read outcome agrees none is = same_Some outcome (refused NoDataset) (sym is ∙ ap (on_version d asked read) (newest_none old d agrees none))

-- and where the number isn't listed, no such version
pub lacking_replied : (old : List Object) (d : Dataset) (number n : ℕ) (read : Table → Option Outcome) (outcome : Outcome) → AgreesWith old d → (IsListed old number → ⊥) → IsNewest old n → on_version d (Some number) read (newest d) ≡ Some outcome → outcome ≡ refused (NoVersion number n)
lacking_replied old d number n read outcome agrees not is_newest is =
    same_Some outcome (refused (NoVersion number n))
    (sym is ∙ ap (on_version d (Some number) read) (newest_at old d n agrees is_newest)
    ∙ ap (λ b. cond b (option_and_then read (table_at d number)) (Some (refused (NoVersion number n)))) (not_among old d number agrees not))

-- the columns of a version's table
pub columns_of : (old : List Object) (version : ℕ) (t : Table) (m : PlainManifest) → StandsFor old version t → HasManifest old version m → t.columns ≡ map unnumbered m.fields
columns_of old version t m stands has = stands.columns ∙ ap (λ n. map unnumbered n.fields) (one_manifest_held old version stands.manifest m stands.has has)

-- a version more is the newest
pub newest_behind : (listed : List ℕ) (version : ℕ) → slice_get (listed ++ version ∷ []) (length (listed ++ version ∷ []) - 1) ≡ Some version
newest_behind listed version = ap (λ n. slice_get (listed ++ version ∷ []) n) place ∙ go listed where
  place : length (listed ++ version ∷ []) - 1 ≡ length listed
  place = omega (arith, length-append listed (version ∷ []))

  go : (xs : List ℕ) → slice_get (xs ++ version ∷ []) (length xs) ≡ Some version
  go [] = refl
  go (x ∷ xs) = go xs
