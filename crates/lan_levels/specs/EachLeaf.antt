-- The leaves of a field in order, each with its number, its place, its type, and its layers from the outermost inward.
use Rattle.std.specs.Prelude.{◌≡◌, ℕ, ◌+◌, suc, Bool, true, List, [], ◌∷◌, ◌⊎◌, ⊤}
use Rattle.lan_model.specs.declared.tree.Layer.{Layer}
use Rattle.lan_model.specs.declared.tree.Layer.TheVariants as layer
use Rattle.lan_model.specs.Plain.{PlainType, list, struct, PlainField, field, PlainFields, no_fields, one_field}

abbrev mutual
  -- how many leaves the field has
  pub leaf_count : PlainField ℕ → ℕ
  leaf_count (field id name n (list item)) = leaf_count item
  leaf_count (field id name n (struct members)) = leaf_count_of members
  leaf_count (field id name n ty) = 1

  pub leaf_count_of : PlainFields ℕ → ℕ
  leaf_count_of no_fields = 0
  leaf_count_of (one_field f fs) = leaf_count f + leaf_count_of fs

abbrev mutual
  -- of each leaf of the field, where the first has the place `i`
  pub EachLeaf : PlainField ℕ → ℕ → (ℕ → ℕ → PlainType ℕ → List Layer → Type 0) → Type 0
  EachLeaf (field id name n (list item)) i P = EachLeaf item i (λ d j ty path. P d j ty (layer.List n ∷ path))
  EachLeaf (field id name n (struct members)) i P = EachLeafOf members n 0 i P
  EachLeaf (field id name n ty) i P = P id i ty (layer.Item n ∷ [])

  -- of each leaf of the members of a struct from the member `m` on
  pub EachLeafOf : PlainFields ℕ → Bool → ℕ → ℕ → (ℕ → ℕ → PlainType ℕ → List Layer → Type 0) → Type 0
  EachLeafOf no_fields n m i P = ⊤
  EachLeafOf (one_field f fs) n m i P = EachLeaf f i (λ d j ty path. P d j ty (layer.Struct n m ∷ path)) × EachLeafOf fs n (suc m) (i + leaf_count f) P

abbrev mutual
  -- of a leaf of the field
  pub SomeLeaf : PlainField ℕ → ℕ → (ℕ → ℕ → PlainType ℕ → List Layer → Type 0) → Type 0
  SomeLeaf (field id name n (list item)) i P = SomeLeaf item i (λ d j ty path. P d j ty (layer.List n ∷ path))
  SomeLeaf (field id name n (struct members)) i P = SomeLeafOf members n 0 i P
  SomeLeaf (field id name n ty) i P = P id i ty (layer.Item n ∷ [])

  pub SomeLeafOf : PlainFields ℕ → Bool → ℕ → ℕ → (ℕ → ℕ → PlainType ℕ → List Layer → Type 0) → Type 0
  SomeLeafOf no_fields n m i P = ⊥
  SomeLeafOf (one_field f fs) n m i P = SomeLeaf f i (λ d j ty path. P d j ty (layer.Struct n m ∷ path)) ⊎ SomeLeafOf fs n (suc m) (i + leaf_count f) P

abbrev mutual
  -- how many layers the first leaf has inside the field's own
  pub first_depth : PlainField ℕ → ℕ
  first_depth (field id name n (list item)) = first_depth item + 1
  first_depth (field id name n (struct members)) = first_depth_of members
  first_depth (field id name n ty) = 0

  pub first_depth_of : PlainFields ℕ → ℕ
  first_depth_of no_fields = 0
  first_depth_of (one_field f fs) = first_depth f + 1

abbrev mutual
  -- how many list layers the first leaf has
  pub first_lists : PlainField ℕ → ℕ
  first_lists (field id name n (list item)) = first_lists item + 1
  first_lists (field id name n (struct members)) = first_lists_of members
  first_lists (field id name n ty) = 0

  pub first_lists_of : PlainFields ℕ → ℕ
  first_lists_of no_fields = 0
  first_lists_of (one_field f fs) = first_lists f

abbrev mutual
  -- with each chosen leaf of a struct the first leaf of the struct is chosen; the leaves of the field have the places from `i` on
  pub IsClosed : PlainField ℕ → ℕ → (ℕ → Bool) → Type 0
  IsClosed (field id name n (list item)) i chosen = IsClosed item i chosen
  IsClosed (field id name n (struct members)) i chosen = AreClosed members i i chosen
  IsClosed (field id name n ty) i chosen = ⊤

  -- the same of members, in a struct whose first leaf has the place `first`
  pub AreClosed : PlainFields ℕ → ℕ → ℕ → (ℕ → Bool) → Type 0
  AreClosed no_fields first i chosen = ⊤
  AreClosed (one_field f fs) first i chosen = (chosen i ≡ true → chosen first ≡ true) × IsClosed f i chosen × AreClosed fs first (i + leaf_count f) chosen
