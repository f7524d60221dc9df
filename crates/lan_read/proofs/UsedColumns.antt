-- The columns that are read of files are those that give the leaves.
use Rattle.std.proofs.Common.{◌≡◌, inl, inr, sym, ap, refl, ℕ, suc, List, [], ◌∷◌, arith}
use Rattle.std.specs.Prelude.{◌⊎◌, ◌&&◌, ℤ, pos, negsuc, All, Contains, Option, None, Some, bytes_eq, not, slice_get}
use Rattle.std.proofs.lemmas.Bool.{cases_Bool}
use Rattle.std.proofs.lemmas.List.Elements.{All-append, All-cons, All-head, All-nil, All-tail, All-weaker}
use Rattle.std.proofs.lemmas.Option.{same_Some, slice_get-get_or}
use Rattle.std.proofs.lemmas.Slice.Eq.{bytes_eq-Decides}
use Rattle.lan_model.specs.Leaves.{PlainLeaf, leaves_of}
use Rattle.lan_model.specs.Plain.{PlainField}
use Rattle.lan_schema.specs.FieldTree.{signed}
use Rattle.lan_schema.specs.Forest.{same}
use Rattle.lan_schema.proofs.ForestLaws.{same_is}
use Rattle.lan_file.specs.Heads.{Pick}
use Rattle.lan_manifest.specs.declared.manifest.DataFile.{DataFile}
use Rattle.lan_read.specs.Given.{Given}
use Rattle.lan_read.specs.Opened.{Use, column_listed, has_path, is_used, leaves_in, paths_used, picks_at, use_of, uses_of}
use Rattle.lan_read.specs.Scanned.{fields_at}
use Rattle.lan_read.proofs.ReadableFields.{each_at}

pub option_cases : {X : Type 0} (o : Option X) → (o ≡ None) ⊎ ((x : X) × (o ≡ Some x))
option_cases None = inl refl
option_cases (Some x) = inr (x, refl)

-- ---- of one leaf

-- the column that lists have for a number is listed for it
listed_column : (ids columns : List ℤ) (z : ℤ) (column : ℕ) → column_listed ids columns z ≡ Some column → (k : ℕ) × (slice_get ids k ≡ Some z) × (slice_get columns k ≡ Some (pos column))
listed_column [] columns z column found = absurd (cc found)
listed_column (i ∷ ids) [] z column found = absurd (cc found)
listed_column (i ∷ ids) (pos n ∷ columns) z column found = elim (cases_Bool (same i z)) [
  | inl is ↦
      let here : Some n ≡ Some column = rw is at found in
      (0, ap Some (same_is i z is), ap (λ (c : ℕ). Some (pos c)) (same_Some n column here))
  | inr other ↦
      let (k, id, there) = listed_column ids columns z column (rw other at found) in
      (suc k, id, there)
]
listed_column (i ∷ ids) (negsuc n ∷ columns) z column found = elim (cases_Bool (same i z)) [
  | inl is ↦
      let (k, id, there) = listed_column ids columns z column (rw is at found) in
      (suc k, id, there)
  | inr other ↦
      let (k, id, there) = listed_column ids columns z column (rw other at found) in
      (suc k, id, there)
]

-- the column gives the leaf
pub record UseGives (files : List DataFile) (leaf : PlainLeaf) (used : Use) : Type 0 where
  pub at : Given files leaf
  pub path : used.path ≡ at.file.path
  pub pick : used.pick ≡ record { column = at.column; leaf = leaf }

further : (file : DataFile) (files : List DataFile) (leaf : PlainLeaf) (used : Use) → UseGives files leaf used → UseGives (file ∷ files) leaf used
further file files leaf used gives =
    let (k, below, is) = gives.at.is_one in
    record { at = record { file = gives.at.file; is_one = (suc k, omega (arith, below), is); column = gives.at.column; listed = gives.at.listed }; path = gives.path; pick = gives.pick }

pub use_gives : (files : List DataFile) (leaf : PlainLeaf) (used : Use) → use_of files leaf ≡ Some used → UseGives files leaf used
use_gives [] leaf used is = absurd (cc is)
use_gives (file ∷ files) leaf used is = elim (option_cases (column_listed file.ids file.columns (signed leaf.id))) [
  | inl none ↦ further file files leaf used (use_gives files leaf used (rw none at is))
  | inr (column, found) ↦
      let here : Some (record { path = file.path; pick = record { column = column; leaf = leaf } }) ≡ Some used = rw found at is in
      let same_use : record { path = file.path; pick = record { column = column; leaf = leaf } } ≡ used = same_Some _ used here in
      record {
        at = record { file = file; is_one = (0, omega arith, refl); column = column; listed = listed_column file.ids file.columns (signed leaf.id) column found };
        path = sym (ap (λ (u : Use). u.path) same_use);
        pick = sym (ap (λ (u : Use). u.pick) same_use);
      }
]

-- ---- of several

-- what holds of the column of each leaf holds of all that are read
pub each_use : (P : Use → Type 0) (files : List DataFile) (leaves : List PlainLeaf) → All (λ (leaf : PlainLeaf). (used : Use) → use_of files leaf ≡ Some used → P used) leaves → All P (uses_of files leaves)
each_use P files [] each = All-nil P
each_use P files (leaf ∷ leaves) each =
    let Holds : PlainLeaf → Type 0 = λ leaf. (used : Use) → use_of files leaf ≡ Some used → P used in
    let here = All-head Holds leaf leaves each in
    let later = each_use P files leaves (All-tail Holds leaf leaves each) in
    elim (option_cases (use_of files leaf)) [
      | inl none ↦ rw none later
      | inr (used, is) ↦ rw is (All-cons P used (uses_of files leaves) (here used is) later)
    ]

pub each_pick : (P : Pick → Type 0) (uses : List Use) (path : List ℕ) → All (λ (used : Use). used.path ≡ path → P used.pick) uses → All P (picks_at uses path)
each_pick P [] path each = All-nil P
each_pick P (used ∷ uses) path each =
    let Holds : Use → Type 0 = λ used. used.path ≡ path → P used.pick in
    let here = All-head Holds used uses each in
    let later = each_pick P uses path (All-tail Holds used uses each) in
    elim (cases_Bool (bytes_eq used.path path)) [
      | inl is ↦ rw is (All-cons P used.pick (picks_at uses path) (here ((bytes_eq-Decides used.path path).0 is)) later)
      | inr other ↦ rw other later
    ]

pub record IsPathOf (files : List DataFile) (path : List ℕ) : Type 0 where
  pub file : DataFile
  pub is_one : Contains files file
  pub is : path ≡ file.path

behind : (file : DataFile) (files : List DataFile) (path : List ℕ) → IsPathOf files path → IsPathOf (file ∷ files) path
behind file files path of =
    let (k, below, is) = of.is_one in
    record { file = of.file; is_one = (suc k, omega (arith, below), is); is = of.is }

-- the paths that are used are those of files
pub each_path : (files : List DataFile) (uses : List Use) → All (IsPathOf files) (paths_used files uses)
each_path [] uses = All-nil (IsPathOf [])
each_path (file ∷ files) uses =
    let later = All-weaker (IsPathOf files) (IsPathOf (file ∷ files)) (behind file files) (paths_used files uses) (each_path files uses) in
    elim (cases_Bool (is_used uses file.path && not (has_path files file.path))) [
      | inl is ↦ rw is (All-cons (IsPathOf (file ∷ files)) file.path (paths_used files uses) (record { file = file; is_one = (0, omega arith, refl); is = refl }) later)
      | inr other ↦ rw other later
    ]

-- what holds of each leaf of each field holds of all of them
pub each_leaf : (P : PlainLeaf → Type 0) (fields : List (PlainField ℕ)) → All (λ (f : PlainField ℕ). All P (leaves_of f 0 [])) fields → All P (leaves_in fields)
each_leaf P [] each = All-nil P
each_leaf P (f ∷ fields) each =
    let Holds : PlainField ℕ → Type 0 = λ f. All P (leaves_of f 0 []) in
    All-append P (leaves_of f 0 []) (leaves_in fields) (All-head Holds f fields each) (each_leaf P fields (All-tail Holds f fields each))

-- a field that is asked is one of all
abbrev pub IsAt : {I : Type 0} → List (PlainField I) → PlainField I → Type 0
IsAt fields f = (top : ℕ) × (slice_get fields top ≡ Some f)

pub asked_at : {I : Type 0} (fields : List (PlainField I)) (places : List ℕ) → All (IsAt fields) (fields_at fields places)
asked_at fields places = each_at (IsAt fields) fields places (λ k d below. (k, slice_get-get_or fields k d below))
