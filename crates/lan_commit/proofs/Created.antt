-- What the put of the first manifest leaves, and which version is the newest.
use Rattle.std.proofs.Common.{◌≡◌, inl, inr, refl, sym, ◌∙◌, ap, subst, ℕ, zero, suc, ◌+◌, ◌<◌, List, [], ◌∷◌, length, take, arith, lit<, append-nil}
use Rattle.std.specs.Prelude.{Option, Some, None, Vec, Result, Ok, Err, IsSome}
use Rattle.std.specs.Option.{ForSome}
use Rattle.std.specs.declared.alloc.Global.{Global}
use Rattle.std.proofs.lemmas.Option.{same_Some}
use Rattle.lan_store.specs.Objects.{object, and_then}
use Rattle.lan_store.specs.PutsAll.{HasFirst, IsHeldAt}
use Rattle.lan_store.specs.declared.name.Name.{Name}
use Rattle.lan_store.specs.declared.name.Object.{Object}
use Rattle.lan_commit.specs.Commits.{Commits, IsNameAt}
use Rattle.lan_commit.specs.Creates.{Creates, PreparesCreate}
use Rattle.lan_commit.specs.First.{first_object, first_limit}
use Rattle.lan_commit.specs.Prepares.{JudgesLimit}
use Rattle.lan_model.specs.Plain.{PlainField}
use Rattle.lan_manifest.specs.Versions.{NoneListed, manifest_name}
use Rattle.lan_commit.specs.declared.committing.CommitFault.{CommitFault}
use Rattle.lan_commit.specs.declared.committing.CommitFault.TheVariants.{AlreadyThere, Limit, Raced, Store, Memory}

-- the one object of a new dataset, at the place where the puts stopped
only_place : (k : ℕ) (o : Object) (name : Name) → k < length (o ∷ []) → IsNameAt (o ∷ []) k name → (k ≡ 0) × (name ≡ o.name)
only_place zero o name below is = (refl, sym (same_Some o.name name is))
only_place (suc k) o name below is = absurd (omega (arith, below))

nothing_more : (before : Option (List Object)) → and_then before [] ≡ before
nothing_more None = refl
nothing_more (Some objects) = ap (λ l. Some l) (append-nil objects)

none_put : (k : ℕ) (o : Object) (before now : Option (List Object)) → k ≡ 0 → HasFirst k (o ∷ []) before now → now ≡ before
none_put k o before now at first = first ∙ ap (λ i. and_then before (take i (o ∷ []))) at ∙ nothing_more before

all_put : (k : ℕ) (o : Object) (before now : Option (List Object)) → k ≡ 0 → HasFirst (k + 1) (o ∷ []) before now → now ≡ and_then before (o ∷ [])
all_put k o before now at first = first ∙ ap (λ i. and_then before (take (i + 1) (o ∷ []))) at

none_held : (old : List Object) (k : ℕ) (fields : List (PlainField ℕ)) → k ≡ 0 → NoneListed old → IsHeldAt k (first_object fields ∷ []) old → ⊥
none_held old k fields at none held =
    let first = subst (λ i. IsHeldAt i (first_object fields ∷ []) old) at held in
    none 1 ((omega arith, lit< tt), subst (λ (l : List Object). IsSome (object l (manifest_name 1))) (append-nil old) first)

pub first_not_held : (old : List Object) (fields : List (PlainField ℕ)) (k : ℕ) → NoneListed old → k < length (first_object fields ∷ []) → IsHeldAt k (first_object fields ∷ []) old → ⊥
first_not_held old fields k none below held = none_held old k fields (omega (arith, below)) none held

-- what the puts of a new dataset leave, where no version was listed
pub created : (fields : List (PlainField ℕ)) (before mid now : Option (List Object)) (puts : List Object) → mid ≡ before → puts ≡ first_object fields ∷ [] → first_limit fields ≡ None → ForSome before NoneListed → Commits puts mid now (Ok tt) → Creates fields before now (Ok 1)
created fields before mid now puts same are short none put = (refl, record { none = none; short = short; grew = put ∙ ap (λ o. and_then o puts) same ∙ ap (λ l. and_then before l) are })

stopped : (fields : List (PlainField ℕ)) (before now : Option (List Object)) (fault : CommitFault) → first_limit fields ≡ None → ForSome before NoneListed → Commits (first_object fields ∷ []) before now (Err fault) → Creates fields before now (Err fault)
stopped fields before now (AlreadyThere version) short none put = absurd put
stopped fields before now (Limit which number) short none put = absurd put
stopped fields before now (Raced name) short none (k, below, named, first, held) =
    let place = only_place k (first_object fields) name below named in
    (place.1, (λ old told. none_held old k fields place.0 (none old told) (held old told)), none_put k (first_object fields) before now place.0 first)
stopped fields before now (Store name) short none (k, below, named, left) =
    let place = only_place k (first_object fields) name below named in
    elim left [
      | inl first ↦ inl (none_put k (first_object fields) before now place.0 first)
      | inr first ↦ inr (record { none = none; short = short; grew = all_put k (first_object fields) before now place.0 first })
    ]
stopped fields before now Memory short none (k, below, first) = none_put k (first_object fields) before now (omega (arith, below)) first

pub not_created : (fields : List (PlainField ℕ)) (before mid now : Option (List Object)) (puts : List Object) (fault : CommitFault) → mid ≡ before → puts ≡ first_object fields ∷ [] → first_limit fields ≡ None → ForSome before NoneListed
    → Commits puts mid now (Err fault) → Creates fields before now (Err fault)
not_created fields before mid now puts fault same are short none put =
    stopped fields before now fault short none (subst (λ o. Commits (first_object fields ∷ []) o now (Err fault)) same (subst (λ l. Commits l mid now (Err fault)) are put))

-- why no object of a new dataset is made
pub not_prepared : (fields : List (PlainField ℕ)) (before mid : Option (List Object)) (fault : CommitFault) → mid ≡ before → PreparesCreate fields before (Err fault) → Creates fields before mid (Err fault)
not_prepared fields before mid (AlreadyThere version) same newest = (newest, same)
not_prepared fields before mid (Limit which number) same (none, limit) = (none, limit, same)
not_prepared fields before mid (Raced name) same never = absurd never
not_prepared fields before mid (Store name) same stopped = inl same
not_prepared fields before mid Memory same stopped = same

-- the one object, or a limit
pub first_judged : (fields : List (PlainField ℕ)) (before : Option (List Object)) (result : Result (Vec Object Global) CommitFault) → ForSome before NoneListed → JudgesLimit (first_limit fields) (λ (puts : Vec Object Global). puts.items ≡ first_object fields ∷ []) result → PreparesCreate fields before result
first_judged fields before (Ok puts) none judged = (none, judged.0, judged.1)
first_judged fields before (Err (AlreadyThere version)) none judged = absurd judged
first_judged fields before (Err (Limit which number)) none judged = (none, judged)
first_judged fields before (Err (Raced name)) none judged = absurd judged
first_judged fields before (Err (Store name)) none judged = tt
first_judged fields before (Err Memory) none judged = tt
