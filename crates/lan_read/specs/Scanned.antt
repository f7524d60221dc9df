-- What a scan gives of the rows of fragments, in some of their fields. That fragments give rows isn't presumed: where one does, these are they.
use Rattle.std.specs.Prelude.{◌≡◌, ℕ, ◌+◌, List, [], ◌∷◌, ◌++◌, length, map, take, All, MatchOption, Option, Some, None, slice_get}
use Rattle.lan_model.specs.Plain.{PlainField, PlainValue}
use Rattle.lan_model.specs.Table.{FitsRow}
use Rattle.lan_model.specs.Take.{picked}
use Rattle.lan_store.specs.declared.name.Object.{Object}
use Rattle.lan_manifest.specs.Manifests.{PlainManifest}
use Rattle.lan_manifest.specs.declared.manifest.Deletion.{Deletion}
use Rattle.lan_manifest.specs.declared.manifest.Fragment.{Fragment}
use Rattle.lan_read.specs.Rows.{FragmentGives}

-- a field before others, where there is one
abbrev pub and_field : {I : Type 0} → Option (PlainField I) → List (PlainField I) → List (PlainField I)
and_field None fields = fields
and_field (Some f) fields = f ∷ fields

-- the fields at these places, in the order in which they are asked
abbrev pub fields_at : {I : Type 0} → List (PlainField I) → List ℕ → List (PlainField I)
fields_at fields [] = []
fields_at fields (place ∷ places) = and_field (slice_get fields place) (fields_at fields places)

-- how many rows of a fragment are deleted
abbrev pub deleted_in : Option Deletion → ℕ
deleted_in None = 0
deleted_in (Some d) = d.rows

-- all rows that a fragment gives, each the asked fields' values: they fit, and are those of its files
pub record GivesAll (objects : List Object) (fields : List (PlainField ℕ)) (places : List ℕ) (f : Fragment) (rows : List (List PlainValue)) : Type 0 where
  pub fit : All (FitsRow (fields_at fields places)) rows
  pub long : length rows + deleted_in f.deletion ≡ f.rows
  pub picks : (kept : List (List PlainValue)) → FragmentGives objects fields f kept → rows ≡ map (picked places) kept

-- the first of them
pub record GivesFront (objects : List Object) (fields : List (PlainField ℕ)) (places : List ℕ) (f : Fragment) (rows : List (List PlainValue)) : Type 0 where
  pub fit : All (FitsRow (fields_at fields places)) rows
  pub picks : (kept : List (List PlainValue)) → FragmentGives objects fields f kept → (later : List (List PlainValue)) × (map (picked places) kept ≡ rows ++ later)

-- all rows that the fragments give, one after another
abbrev pub AreScanned : List Object → List (PlainField ℕ) → List ℕ → List Fragment → List (List PlainValue) → Type 0
AreScanned objects fields places [] rows = rows ≡ []
AreScanned objects fields places (f ∷ fs) rows =
    (mine : List (List PlainValue)) × (later : List (List PlainValue)) × GivesAll objects fields places f mine × AreScanned objects fields places fs later × (rows ≡ mine ++ later)

-- the rows of the first fragments of a manifest, and the first ones of the fragment behind them
pub record IsScanFront (objects : List Object) (m : PlainManifest) (places : List ℕ) (rows : List (List PlainValue)) : Type 0 where
  pub fragments : ℕ
  pub whole : List (List PlainValue)
  pub begun : List (List PlainValue)
  pub scanned : AreScanned objects m.fields places (take fragments m.fragments) whole
  pub first : MatchOption (slice_get m.fragments fragments) (begun ≡ []) (λ f. GivesFront objects m.fields places f begun)
  pub is : rows ≡ whole ++ begun
