-- Facts of each leaf of a field.
use Rattle.std.proofs.Common.{◌≡◌, ℕ, suc, ◌+◌, ◌<◌, ◌≤◌, inl, inr, Bool, List, [], ◌∷◌, length, refl, arith}
use Rattle.std.specs.Bool.{⊤}
use Rattle.lan_model.specs.declared.tree.Layer.{Layer}
use Rattle.lan_model.specs.declared.tree.Layer.TheVariants as layer
use Rattle.lan_model.specs.Plain.{PlainType, primitive, vector, text, bytes, list, struct, PlainField, field, PlainFields, no_fields, one_field}
use Rattle.lan_model.specs.Table.{IsField, AreFields, names_of}
use Rattle.lan_levels.specs.SlotsOf.{lists_in}
use Rattle.lan_levels.specs.EachLeaf.{leaf_count, leaf_count_of, EachLeaf, EachLeafOf, SomeLeaf, SomeLeafOf, first_depth, first_depth_of, first_lists, first_lists_of}
use Rattle.lan_levels.proofs.EachPath.{EachPath, EachMember}

mutual
  -- what two facts of each leaf give
  pub EachLeaf-map2 : (f : PlainField ℕ) (i : ℕ) (P Q R : ℕ → ℕ → PlainType ℕ → List Layer → Type 0)
      → ((d j : ℕ) (ty : PlainType ℕ) (path : List Layer) → i ≤ j → j < i + leaf_count f → 0 < length path → P d j ty path → Q d j ty path → R d j ty path)
      → EachLeaf f i P → EachLeaf f i Q → EachLeaf f i R
  EachLeaf-map2 (field id name n (list item)) i P Q R h p q =
      EachLeaf-map2 item i (λ d j ty path. P d j ty (layer.List n ∷ path)) (λ d j ty path. Q d j ty (layer.List n ∷ path)) (λ d j ty path. R d j ty (layer.List n ∷ path))
      (λ d j ty path a b e. h d j ty (layer.List n ∷ path) a b (omega arith)) p q
  EachLeaf-map2 (field id name n (struct members)) i P Q R h p q = EachLeafOf-map2 members n 0 i P Q R h p q
  EachLeaf-map2 (field id name n (primitive t)) i P Q R h p q = h id i (primitive t) (layer.Item n ∷ []) (omega arith) (omega arith) (omega arith) p q
  EachLeaf-map2 (field id name n (vector t k)) i P Q R h p q = h id i (vector t k) (layer.Item n ∷ []) (omega arith) (omega arith) (omega arith) p q
  EachLeaf-map2 (field id name n text) i P Q R h p q = h id i text (layer.Item n ∷ []) (omega arith) (omega arith) (omega arith) p q
  EachLeaf-map2 (field id name n bytes) i P Q R h p q = h id i bytes (layer.Item n ∷ []) (omega arith) (omega arith) (omega arith) p q

  pub EachLeafOf-map2 : (fs : PlainFields ℕ) (n : Bool) (m i : ℕ) (P Q R : ℕ → ℕ → PlainType ℕ → List Layer → Type 0)
      → ((d j : ℕ) (ty : PlainType ℕ) (path : List Layer) → i ≤ j → j < i + leaf_count_of fs → 0 < length path → P d j ty path → Q d j ty path → R d j ty path)
      → EachLeafOf fs n m i P → EachLeafOf fs n m i Q → EachLeafOf fs n m i R
  EachLeafOf-map2 no_fields n m i P Q R h p q = tt
  EachLeafOf-map2 (one_field f fs) n m i P Q R h p q = (
    EachLeaf-map2 f i (λ d j ty path. P d j ty (layer.Struct n m ∷ path)) (λ d j ty path. Q d j ty (layer.Struct n m ∷ path)) (λ d j ty path. R d j ty (layer.Struct n m ∷ path))
        (λ d j ty path a b e. h d j ty (layer.Struct n m ∷ path) a (omega arith) (omega arith)) p.0 q.0,
    EachLeafOf-map2 fs n (suc m) (i + leaf_count f) P Q R (λ d j ty path a b e. h d j ty path (omega arith) (omega arith) e) p.1 q.1,
  )

mutual
  pub EachLeaf-all : (f : PlainField ℕ) (i : ℕ) (P : ℕ → ℕ → PlainType ℕ → List Layer → Type 0)
      → ((d j : ℕ) (ty : PlainType ℕ) (path : List Layer) → i ≤ j → j < i + leaf_count f → 0 < length path → P d j ty path) → EachLeaf f i P
  EachLeaf-all (field id name n (list item)) i P h =
      EachLeaf-all item i (λ d j ty path. P d j ty (layer.List n ∷ path)) (λ d j ty path a b e. h d j ty (layer.List n ∷ path) a b (omega arith))
  EachLeaf-all (field id name n (struct members)) i P h = EachLeafOf-all members n 0 i P h
  EachLeaf-all (field id name n (primitive t)) i P h = h id i (primitive t) (layer.Item n ∷ []) (omega arith) (omega arith) (omega arith)
  EachLeaf-all (field id name n (vector t k)) i P h = h id i (vector t k) (layer.Item n ∷ []) (omega arith) (omega arith) (omega arith)
  EachLeaf-all (field id name n text) i P h = h id i text (layer.Item n ∷ []) (omega arith) (omega arith) (omega arith)
  EachLeaf-all (field id name n bytes) i P h = h id i bytes (layer.Item n ∷ []) (omega arith) (omega arith) (omega arith)

  pub EachLeafOf-all : (fs : PlainFields ℕ) (n : Bool) (m i : ℕ) (P : ℕ → ℕ → PlainType ℕ → List Layer → Type 0)
      → ((d j : ℕ) (ty : PlainType ℕ) (path : List Layer) → i ≤ j → j < i + leaf_count_of fs → 0 < length path → P d j ty path) → EachLeafOf fs n m i P
  EachLeafOf-all no_fields n m i P h = tt
  EachLeafOf-all (one_field f fs) n m i P h = (
    EachLeaf-all f i (λ d j ty path. P d j ty (layer.Struct n m ∷ path)) (λ d j ty path a b e. h d j ty (layer.Struct n m ∷ path) a (omega arith) (omega arith)),
    EachLeafOf-all fs n (suc m) (i + leaf_count f) P (λ d j ty path a b e. h d j ty path (omega arith) (omega arith) e),
  )

pub EachLeaf-map : (f : PlainField ℕ) (i : ℕ) (P R : ℕ → ℕ → PlainType ℕ → List Layer → Type 0)
    → ((d j : ℕ) (ty : PlainType ℕ) (path : List Layer) → i ≤ j → j < i + leaf_count f → 0 < length path → P d j ty path → R d j ty path) → EachLeaf f i P → EachLeaf f i R
EachLeaf-map f i P R h p = EachLeaf-map2 f i P P R (λ d j ty path a b e x y. h d j ty path a b e x) p p

pub EachLeafOf-map : (fs : PlainFields ℕ) (n : Bool) (m i : ℕ) (P R : ℕ → ℕ → PlainType ℕ → List Layer → Type 0)
    → ((d j : ℕ) (ty : PlainType ℕ) (path : List Layer) → i ≤ j → j < i + leaf_count_of fs → 0 < length path → P d j ty path → R d j ty path)
    → EachLeafOf fs n m i P → EachLeafOf fs n m i R
EachLeafOf-map fs n m i P R h p = EachLeafOf-map2 fs n m i P P R (λ d j ty path a b e x y. h d j ty path a b e x) p p

mutual
  -- what holds of each path holds of each leaf
  pub EachLeaf-path : (f : PlainField ℕ) (i : ℕ) (P : PlainType ℕ → List Layer → Type 0) → EachPath f P → EachLeaf f i (λ d j ty path. P ty path)
  EachLeaf-path (field id name n (list item)) i P h = EachLeaf-path item i (λ ty path. P ty (layer.List n ∷ path)) h
  EachLeaf-path (field id name n (struct members)) i P h = EachLeafOf-path members n 0 i P h
  EachLeaf-path (field id name n (primitive t)) i P h = h
  EachLeaf-path (field id name n (vector t k)) i P h = h
  EachLeaf-path (field id name n text) i P h = h
  EachLeaf-path (field id name n bytes) i P h = h

  pub EachLeafOf-path : (fs : PlainFields ℕ) (n : Bool) (m i : ℕ) (P : PlainType ℕ → List Layer → Type 0) → EachMember fs n m P → EachLeafOf fs n m i (λ d j ty path. P ty path)
  EachLeafOf-path no_fields n m i P h = tt
  EachLeafOf-path (one_field f fs) n m i P h = (EachLeaf-path f i (λ ty path. P ty (layer.Struct n m ∷ path)) h.0, EachLeafOf-path fs n (suc m) (i + leaf_count f) P h.1)

mutual
  -- what holds of some leaf and of each holds of some leaf together
  pub SomeLeaf-map2 : (f : PlainField ℕ) (i : ℕ) (P Q R : ℕ → ℕ → PlainType ℕ → List Layer → Type 0)
      → ((d j : ℕ) (ty : PlainType ℕ) (path : List Layer) → i ≤ j → j < i + leaf_count f → 0 < length path → P d j ty path → Q d j ty path → R d j ty path)
      → SomeLeaf f i P → EachLeaf f i Q → SomeLeaf f i R
  SomeLeaf-map2 (field id name n (list item)) i P Q R h p q =
      SomeLeaf-map2 item i (λ d j ty path. P d j ty (layer.List n ∷ path)) (λ d j ty path. Q d j ty (layer.List n ∷ path)) (λ d j ty path. R d j ty (layer.List n ∷ path))
      (λ d j ty path a b e. h d j ty (layer.List n ∷ path) a b (omega arith)) p q
  SomeLeaf-map2 (field id name n (struct members)) i P Q R h p q = SomeLeafOf-map2 members n 0 i P Q R h p q
  SomeLeaf-map2 (field id name n (primitive t)) i P Q R h p q = h id i (primitive t) (layer.Item n ∷ []) (omega arith) (omega arith) (omega arith) p q
  SomeLeaf-map2 (field id name n (vector t k)) i P Q R h p q = h id i (vector t k) (layer.Item n ∷ []) (omega arith) (omega arith) (omega arith) p q
  SomeLeaf-map2 (field id name n text) i P Q R h p q = h id i text (layer.Item n ∷ []) (omega arith) (omega arith) (omega arith) p q
  SomeLeaf-map2 (field id name n bytes) i P Q R h p q = h id i bytes (layer.Item n ∷ []) (omega arith) (omega arith) (omega arith) p q

  pub SomeLeafOf-map2 : (fs : PlainFields ℕ) (n : Bool) (m i : ℕ) (P Q R : ℕ → ℕ → PlainType ℕ → List Layer → Type 0)
      → ((d j : ℕ) (ty : PlainType ℕ) (path : List Layer) → i ≤ j → j < i + leaf_count_of fs → 0 < length path → P d j ty path → Q d j ty path → R d j ty path)
      → SomeLeafOf fs n m i P → EachLeafOf fs n m i Q → SomeLeafOf fs n m i R
  SomeLeafOf-map2 no_fields n m i P Q R h p q = p
  SomeLeafOf-map2 (one_field f fs) n m i P Q R h (inl p) q =
      inl (SomeLeaf-map2 f i (λ d j ty path. P d j ty (layer.Struct n m ∷ path)) (λ d j ty path. Q d j ty (layer.Struct n m ∷ path)) (λ d j ty path. R d j ty (layer.Struct n m ∷ path))
      (λ d j ty path a b e. h d j ty (layer.Struct n m ∷ path) a (omega arith) (omega arith)) p q.0)
  SomeLeafOf-map2 (one_field f fs) n m i P Q R h (inr p) q =
      inr (SomeLeafOf-map2 fs n (suc m) (i + leaf_count f) P Q R (λ d j ty path a b e. h d j ty path (omega arith) (omega arith) e) p q.1)

pub SomeLeaf-map : (f : PlainField ℕ) (i : ℕ) (P R : ℕ → ℕ → PlainType ℕ → List Layer → Type 0)
    → ((d j : ℕ) (ty : PlainType ℕ) (path : List Layer) → i ≤ j → j < i + leaf_count f → 0 < length path → P d j ty path → R d j ty path) → SomeLeaf f i P → SomeLeaf f i R
SomeLeaf-map f i P R h p =
    SomeLeaf-map2 f i P (λ d j ty path. ⊤) R (λ d j ty path a b e x y. h d j ty path a b e x) p (EachLeaf-all f i (λ d j ty path. ⊤) (λ d j ty path a b e. tt))

pub SomeLeafOf-map : (fs : PlainFields ℕ) (n : Bool) (m i : ℕ) (P R : ℕ → ℕ → PlainType ℕ → List Layer → Type 0)
    → ((d j : ℕ) (ty : PlainType ℕ) (path : List Layer) → i ≤ j → j < i + leaf_count_of fs → 0 < length path → P d j ty path → R d j ty path)
    → SomeLeafOf fs n m i P → SomeLeafOf fs n m i R
SomeLeafOf-map fs n m i P R h p =
    SomeLeafOf-map2 fs n m i P (λ d j ty path. ⊤) R (λ d j ty path a b e x y. h d j ty path a b e x) p (EachLeafOf-all fs n m i (λ d j ty path. ⊤) (λ d j ty path a b e. tt))

mutual
  -- what holds of no leaf
  pub SomeLeaf-none : (f : PlainField ℕ) (i : ℕ) → SomeLeaf f i (λ d j ty path. ⊥) → ⊥
  SomeLeaf-none (field id name n (list item)) i h = SomeLeaf-none item i h
  SomeLeaf-none (field id name n (struct members)) i h = SomeLeafOf-none members n 0 i h
  SomeLeaf-none (field id name n (primitive t)) i h = h
  SomeLeaf-none (field id name n (vector t k)) i h = h
  SomeLeaf-none (field id name n text) i h = h
  SomeLeaf-none (field id name n bytes) i h = h

  pub SomeLeafOf-none : (fs : PlainFields ℕ) (n : Bool) (m i : ℕ) → SomeLeafOf fs n m i (λ d j ty path. ⊥) → ⊥
  SomeLeafOf-none no_fields n m i h = h
  SomeLeafOf-none (one_field f fs) n m i (inl h) = SomeLeaf-none f i h
  SomeLeafOf-none (one_field f fs) n m i (inr h) = SomeLeafOf-none fs n (suc m) (i + leaf_count f) h

-- the first leaf of a field
pub record FirstLeaf (f : PlainField ℕ) (i : ℕ) (P : ℕ → ℕ → PlainType ℕ → List Layer → Type 0) : Type 0 where
  pub id : ℕ
  pub ty : PlainType ℕ
  pub path : List Layer
  pub depth : length path ≡ first_depth f + 1
  pub lists : lists_in path ≡ first_lists f
  pub count : 0 < leaf_count f
  pub holds : P id i ty path

record FirstLeafOf (fs : PlainFields ℕ) (i : ℕ) (P : ℕ → ℕ → PlainType ℕ → List Layer → Type 0) : Type 0 where
  pub id : ℕ
  pub ty : PlainType ℕ
  pub path : List Layer
  pub depth : length path ≡ first_depth_of fs + 1
  pub lists : lists_in path ≡ first_lists_of fs
  pub count : 0 < leaf_count_of fs
  pub holds : P id i ty path

mutual
  pub EachLeaf-first : (f : PlainField ℕ) (i : ℕ) (P : ℕ → ℕ → PlainType ℕ → List Layer → Type 0) → IsField f → EachLeaf f i P → FirstLeaf f i P
  EachLeaf-first (field id name n (list item)) i P k h =
      let s = EachLeaf-first item i (λ d j ty path. P d j ty (layer.List n ∷ path)) k h in
      let depth : length s.path ≡ first_depth item + 1 = s.depth in
      let lists : lists_in s.path ≡ first_lists item = s.lists in
      record { id = s.id; ty = s.ty; path = layer.List n ∷ s.path; depth = omega arith; lists = omega arith; count = s.count; holds = s.holds }
  EachLeaf-first (field id name n (struct members)) i P k h =
      let s = EachLeafOf-first members n 0 i P k.0.0 k.1 h in
      record { id = s.id; ty = s.ty; path = s.path; depth = s.depth; lists = s.lists; count = s.count; holds = s.holds }
  EachLeaf-first (field id name n (primitive t)) i P k h =
      record { id = id; ty = primitive t; path = layer.Item n ∷ []; depth = omega arith; lists = omega arith; count = omega arith; holds = h }
  EachLeaf-first (field id name n (vector t q)) i P k h =
      record { id = id; ty = vector t q; path = layer.Item n ∷ []; depth = omega arith; lists = omega arith; count = omega arith; holds = h }
  EachLeaf-first (field id name n text) i P k h =
      record { id = id; ty = text; path = layer.Item n ∷ []; depth = omega arith; lists = omega arith; count = omega arith; holds = h }
  EachLeaf-first (field id name n bytes) i P k h =
      record { id = id; ty = bytes; path = layer.Item n ∷ []; depth = omega arith; lists = omega arith; count = omega arith; holds = h }

  EachLeafOf-first : (fs : PlainFields ℕ) (n : Bool) (m i : ℕ) (P : ℕ → ℕ → PlainType ℕ → List Layer → Type 0)
      → 0 < length (names_of fs) → AreFields fs → EachLeafOf fs n m i P → FirstLeafOf fs i P
  EachLeafOf-first no_fields n m i P some k h = absurd (omega arith)
  EachLeafOf-first (one_field f fs) n m i P some k h =
      let s = EachLeaf-first f i (λ d j ty path. P d j ty (layer.Struct n m ∷ path)) k.0 h.0 in
      let depth : length s.path ≡ first_depth f + 1 = s.depth in
      let count : 0 < leaf_count f = s.count in
      record { id = s.id; ty = s.ty; path = layer.Struct n m ∷ s.path; depth = omega arith; lists = s.lists; count = omega arith; holds = s.holds }

mutual
  -- with what holds of some leaf, that it holds of the leaf at the same place
  pub SomeLeaf-self : (f : PlainField ℕ) (i : ℕ) (P : ℕ → ℕ → PlainType ℕ → List Layer → Type 0)
      → SomeLeaf f i P → SomeLeaf f i (λ d j ty path. P d j ty path × SomeLeaf f i (λ d' j' ty' path'. P d' j' ty' path' × (j' ≡ j)))
  SomeLeaf-self (field id name n (list item)) i P h = SomeLeaf-self item i (λ d j ty path. P d j ty (layer.List n ∷ path)) h
  SomeLeaf-self (field id name n (struct members)) i P h = SomeLeafOf-self members n 0 i P h
  SomeLeaf-self (field id name n (primitive p)) i P h = (h, (h, refl))
  SomeLeaf-self (field id name n (vector p k)) i P h = (h, (h, refl))
  SomeLeaf-self (field id name n text) i P h = (h, (h, refl))
  SomeLeaf-self (field id name n bytes) i P h = (h, (h, refl))

  pub SomeLeafOf-self : (fs : PlainFields ℕ) (n : Bool) (m i : ℕ) (P : ℕ → ℕ → PlainType ℕ → List Layer → Type 0)
      → SomeLeafOf fs n m i P → SomeLeafOf fs n m i (λ d j ty path. P d j ty path × SomeLeafOf fs n m i (λ d' j' ty' path'. P d' j' ty' path' × (j' ≡ j)))
  SomeLeafOf-self no_fields n m i P h = h
  SomeLeafOf-self (one_field f fs) n m i P (inl h) =
      let Q : ℕ → ℕ → PlainType ℕ → List Layer → Type 0 = λ d j ty path. P d j ty (layer.Struct n m ∷ path) in
      inl (SomeLeaf-map f i (λ d j ty path. Q d j ty path × SomeLeaf f i (λ d' j' ty' path'. Q d' j' ty' path' × (j' ≡ j)))
      (λ d j ty path. Q d j ty path × SomeLeafOf (one_field f fs) n m i (λ d' j' ty' path'. P d' j' ty' path' × (j' ≡ j)))
      (λ d j ty path a b e p. (p.0, inl p.1)) (SomeLeaf-self f i Q h))
  SomeLeafOf-self (one_field f fs) n m i P (inr h) =
      inr (SomeLeafOf-map fs n (suc m) (i + leaf_count f)
      (λ d j ty path. P d j ty path × SomeLeafOf fs n (suc m) (i + leaf_count f) (λ d' j' ty' path'. P d' j' ty' path' × (j' ≡ j)))
      (λ d j ty path. P d j ty path × SomeLeafOf (one_field f fs) n m i (λ d' j' ty' path'. P d' j' ty' path' × (j' ≡ j)))
      (λ d j ty path a b e p. (p.0, inr p.1)) (SomeLeafOf-self fs n (suc m) (i + leaf_count f) P h))

-- what contradicts what holds of each leaf
pub SomeLeaf-not : (f : PlainField ℕ) (i : ℕ) (P Q : ℕ → ℕ → PlainType ℕ → List Layer → Type 0)
    → ((d j : ℕ) (ty : PlainType ℕ) (path : List Layer) → i ≤ j → j < i + leaf_count f → 0 < length path → P d j ty path → Q d j ty path → ⊥)
    → SomeLeaf f i P → EachLeaf f i Q → ⊥
SomeLeaf-not f i P Q h p q = SomeLeaf-none f i (SomeLeaf-map2 f i P Q (λ d j ty path. ⊥) h p q)
