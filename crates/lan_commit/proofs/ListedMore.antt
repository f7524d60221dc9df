-- One version more, behind those that are listed, and data files, which list none.
use Rattle.std.proofs.Common.{◌≡◌, inl, inr, refl, sym, ◌∙◌, ap, subst, ℕ, zero, suc, ◌+◌, ◌<◌, List, [], ◌∷◌, ◌++◌, length, take, get_or, arith, append_assoc, append-nil, length-append, true, false}
use Rattle.std.specs.Prelude.{Option, Some, None, IsSome, All, Contains, ◌⊎◌}
use Rattle.std.specs.List.{AllByRecursion}
use Rattle.std.proofs.lemmas.Bool.{cases_lt}
use Rattle.std.proofs.lemmas.List.{get_or_append_left}
use Rattle.std.proofs.lemmas.List.Elements.{All-nil, All-cons, All-append}
use Rattle.lan_store.specs.declared.name.Dir.TheVariants.{Versions}
use Rattle.lan_store.specs.declared.name.Name.{Name}
use Rattle.lan_store.specs.declared.name.Object.{Object}
use Rattle.lan_store.specs.Names.{same_dir}
use Rattle.lan_store.specs.Objects.{object}
use Rattle.lan_store.proofs.LawTerms.{first_held, held_behind, held_either, held_more}
use Rattle.lan_manifest.specs.Versions.{AreListed, IsListed, IsVersion, manifest_name}
use Rattle.lan_manifest.proofs.LawTerms.{manifest_name_injective}

-- none of the objects is a manifest
abbrev pub ListNothing : List Object → Type 0
ListNothing os = AllByRecursion (λ (o : Object). same_dir o.name.dir Versions ≡ false) os

pub none_held : (o : Option (List ℕ)) → (IsSome o → ⊥) → o ≡ None
none_held None h = refl
none_held (Some bytes) h = absurd (h refl)

some_held : (o : Option (List ℕ)) → IsSome o → (bytes : List ℕ) × (o ≡ Some bytes)
some_held None some = absurd (cc some)
some_held (Some bytes) some = (bytes, refl)

pub is_held : (o : Option (List ℕ)) (bytes : List ℕ) → o ≡ Some bytes → IsSome o
is_held o bytes is = rw is refl

-- what they list was listed before
pub listed_before : (objects files : List Object) (version : ℕ) → ListNothing files → IsSome (object (objects ++ files) (manifest_name version)) → IsSome (object objects (manifest_name version))
listed_before objects [] version none held = subst (λ (l : List Object). IsSome (object l (manifest_name version))) (append-nil objects) held
listed_before objects (file ∷ files) version none held =
    let Held : List Object → Type 0 = λ (l : List Object). IsSome (object l (manifest_name version)) in
    elim (held_either objects file (manifest_name version) (listed_before (objects ++ file ∷ []) files version none.1 (subst Held (sym (append_assoc objects (file ∷ []) files)) held))) [
      | inl before ↦ before
      | inr is ↦ let dirs : same_dir file.name.dir Versions ≡ true = ap (λ (n : Name). same_dir n.dir Versions) is in absurd (cc (sym none.0 ∙ dirs))
    ]

-- the last object, where none of its name was held
pub last_held : (objects files : List Object) (o : Object) → object (objects ++ files) o.name ≡ None → object (objects ++ (files ++ o ∷ [])) o.name ≡ Some o.bytes
last_held objects files o none = ap (λ (l : List Object). object l o.name) (sym (append_assoc objects files (o ∷ []))) ∙ held_behind (objects ++ files) (o ∷ []) o.name none ∙ first_held o []

pub listed_still : (objects more : List Object) (version : ℕ) → IsListed objects version → IsListed (objects ++ more) version
listed_still objects more version listed =
    let some = some_held (object objects (manifest_name version)) listed.1 in
    (listed.0, is_held (object (objects ++ more) (manifest_name version)) some.0 (held_more objects more (manifest_name version) some.0 some.1))

-- files and a manifest list its version more
adds_one : (objects files : List Object) (o : Object) (version w : ℕ) → ListNothing files → o.name ≡ manifest_name version → IsVersion version → IsListed (objects ++ (files ++ o ∷ [])) w → IsListed objects w ⊎ (w ≡ version)
adds_one objects files o version w none named is_version listed =
    let Held : List Object → Type 0 = λ (l : List Object). IsSome (object l (manifest_name w)) in
    elim (held_either (objects ++ files) o (manifest_name w) (subst Held (sym (append_assoc objects files (o ∷ []))) listed.1)) [
      | inl before ↦ inl (listed.0, listed_before objects files w none before)
      | inr is ↦ inr (sym (manifest_name_injective version w is_version listed.0 (sym named ∙ is)))
    ]

contains_last : (xs : List ℕ) (x : ℕ) → Contains (xs ++ x ∷ []) x
contains_last [] x = (0, omega arith, refl)
contains_last (y ∷ ys) x = let found = contains_last ys x in (suc found.0, omega (arith, found.1), found.2)

contains_before : (xs : List ℕ) (x y : ℕ) → Contains xs y → Contains (xs ++ x ∷ []) y
contains_before xs x y (k, below, is) = (k, omega (arith, below, length-append xs (x ∷ [])), get_or_append_left xs (x ∷ []) y k below ∙ is)

rises_behind : (xs : List ℕ) (x : ℕ) → ((k : ℕ) → k + 1 < length xs → get_or xs k 0 < get_or xs (k + 1) 0) → All (λ y. y < x) xs → (k : ℕ) → k + 1 < length (xs ++ x ∷ []) → get_or (xs ++ x ∷ []) k 0 < get_or (xs ++ x ∷ []) (k + 1) 0
rises_behind xs x up below k in_all = elim (cases_lt (k + 1) (length xs)) [
  | inl before ↦ omega (arith, up k before, get_or_append_left xs (x ∷ []) 0 k (omega (arith, before)), get_or_append_left xs (x ∷ []) 0 (k + 1) before)
  | inr past ↦
      let size = length-append xs (x ∷ []) in
      let at : k + 1 ≡ length xs = omega (arith, past, in_all, size) in
      let last : get_or (xs ++ x ∷ []) (k + 1) 0 ≡ x = ap (λ i. get_or (xs ++ x ∷ []) i 0) at ∙ at_end xs x in
      omega (arith, last, below k 0 (omega (arith, at)), get_or_append_left xs (x ∷ []) 0 k (omega (arith, at)))
] where
  at_end : (xs : List ℕ) (x : ℕ) → get_or (xs ++ x ∷ []) (length xs) 0 ≡ x
  at_end [] x = refl
  at_end (y ∷ ys) x = at_end ys x

-- its version is then the last of those that are listed
pub listed_one_more : (objects files : List Object) (o : Object) (versions : List ℕ) (version : ℕ) → AreListed objects versions → ListNothing files → o.name ≡ manifest_name version → IsVersion version → IsSome (object (objects ++ (files ++ o ∷ [])) (manifest_name version))
    → ((w : ℕ) → IsListed objects w → w < version) → AreListed (objects ++ (files ++ o ∷ [])) (versions ++ version ∷ [])
listed_one_more objects files o versions version are none named is_version held later = record {
  rising = rises_behind versions version are.rising (λ k e below. later (get_or versions k e) (are.only k e below));
  only = All-append (IsListed (objects ++ (files ++ o ∷ []))) versions (version ∷ []) (λ k e below. listed_still objects (files ++ o ∷ []) (get_or versions k e) (are.only k e below))
      (All-cons (IsListed (objects ++ (files ++ o ∷ []))) version [] (is_version, held) (All-nil (IsListed (objects ++ (files ++ o ∷ [])))));
  all = λ w is. elim (adds_one objects files o version w none named is_version is) [
    | inl before ↦ contains_before versions version w (are.all w before)
    | inr last ↦ subst (Contains (versions ++ version ∷ [])) (sym last) (contains_last versions version)
  ];
}

-- a proper front of files and an object behind them is one of the files
pub front_nothing : (files : List Object) (o : Object) (k : ℕ) → ListNothing files → k < length (files ++ o ∷ []) → ListNothing (take k (files ++ o ∷ []))
front_nothing [] o zero none below = tt
front_nothing [] o (suc k) none below = absurd (omega (arith, below))
front_nothing (file ∷ files) o zero none below = tt
front_nothing (file ∷ files) o (suc k) none below = (none.0, front_nothing files o k none.1 (omega (arith, below)))

-- data files list no version
pub listed_same : (objects files : List Object) (versions : List ℕ) → ListNothing files → AreListed objects versions → AreListed (objects ++ files) versions
listed_same objects files versions none are = record {
  rising = are.rising;
  only = λ k e below. listed_still objects files (get_or versions k e) (are.only k e below);
  all = λ version listed. are.all version (listed.0, listed_before objects files version none listed.1);
}
