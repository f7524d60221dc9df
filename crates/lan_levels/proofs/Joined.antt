-- The slots of a value in the leaves of a field, one run for each.
use Rattle.std.proofs.Common.{◌≡◌, ℕ, zero, suc, ◌+◌, ◌<◌, ◌≤◌, ◌⊎◌, inl, inr, Bool, List, [], ◌∷◌, ◌++◌, Some, length, map, drop, reverse, slice_get, refl, ap, sym, subst, ◌∙◌, append_assoc, add-one, length-append, arith}
use Rattle.std.proofs.lemmas.Grind.{reverse_onto}
use Rattle.std.proofs.lemmas.List.{append-nil}
use Rattle.lan_model.specs.declared.tree.Layer.{Layer}
use Rattle.lan_model.specs.declared.tree.Layer.TheVariants as layer
use Rattle.lan_model.specs.Plain.{PlainType, primitive, vector, text, bytes, list, struct, PlainField, field, PlainFields, no_fields, one_field, PlainValue}
use Rattle.lan_model.specs.Leaves.{PlainLeaf, leaves_of, leaves_of_members}
use Rattle.lan_levels.specs.declared.slot.SlotRun.{SlotRun}
use Rattle.lan_levels.specs.SlotsOf.{slots_of, lists_in, leaf_slots}
use Rattle.lan_levels.specs.EachLeaf.{leaf_count, leaf_count_of, EachLeaf, EachLeafOf, SomeLeaf, SomeLeafOf}
use Rattle.lan_levels.specs.BadSlots.{slots_at}
use Rattle.lan_levels.specs.Joins.{AreRunsOf, HaveSlots}
use Rattle.lan_levels.proofs.Leaves.{onward}
use Rattle.lan_levels.proofs.EachLeaf.{EachLeaf-map, SomeLeaf-map, SomeLeafOf-map}

-- the run at a place has the value's slots
abbrev pub HasSlots : List SlotRun → PlainValue → ℕ → ℕ → PlainType ℕ → List Layer → Type 0
HasSlots runs v d j ty path = slots_at runs j ≡ slots_of ty path (lists_in path) v

abbrev Onward : List Layer → List SlotRun → PlainValue → ℕ → ℕ → PlainType ℕ → List Layer → Type 0
Onward outer runs v d j ty path = HasSlots runs v d j ty (reverse outer ++ path)

-- the first run has the first leaf's slots
one_has : (l : PlainLeaf) (ls : List PlainLeaf) (runs : List SlotRun) (i : ℕ) (v : PlainValue) → HaveSlots (l ∷ ls) (drop i runs) v → (slots_at runs i ≡ leaf_slots l v) × HaveSlots ls (drop (i + 1) runs) v
one_has l ls [] zero v h = absurd h
one_has l ls [] (suc i) v h = absurd h
one_has l ls (run ∷ runs) zero v h = h
one_has l ls (run ∷ runs) (suc i) v h =
    let rest = one_has l ls runs i v h in
    let e : suc (i + 1) ≡ suc i + 1 = omega arith in
    (rest.0, subst (λ (n : ℕ). HaveSlots ls (drop n (run ∷ runs)) v) e rest.1)

have_one : (l : PlainLeaf) (ls : List PlainLeaf) (runs : List SlotRun) (i : ℕ) (v : PlainValue) → i < length runs → slots_at runs i ≡ leaf_slots l v → HaveSlots ls (drop (i + 1) runs) v
    → HaveSlots (l ∷ ls) (drop i runs) v
have_one l ls [] i v lt e h = absurd (omega arith)
have_one l ls (run ∷ runs) zero v lt e h = (e, h)
have_one l ls (run ∷ runs) (suc i) v lt e h =
    let same : suc i + 1 ≡ suc (i + 1) = omega arith in
    have_one l ls runs i v (omega arith) e (subst (λ (n : ℕ). HaveSlots ls (drop n (run ∷ runs)) v) same h)

alone_slots : (ty : PlainType ℕ) (n : Bool) (outer : List Layer) (v : PlainValue)
    → slots_of ty (reverse (layer.Item n ∷ outer)) (lists_in (reverse (layer.Item n ∷ outer))) v
    ≡ slots_of ty (reverse outer ++ (layer.Item n ∷ [])) (lists_in (reverse outer ++ (layer.Item n ∷ []))) v
alone_slots ty n outer v = ap (λ (p : List Layer). slots_of ty p (lists_in p) v) (reverse_onto outer (layer.Item n) [])

mutual
  pub each_has : (f : PlainField ℕ) (top i : ℕ) (outer : List Layer) (more : List PlainLeaf) (runs : List SlotRun) (v : PlainValue)
      → HaveSlots (leaves_of f top outer ++ more) (drop i runs) v → EachLeaf f i (Onward outer runs v) × HaveSlots more (drop (i + leaf_count f) runs) v
  each_has (field id name n (list item)) top i outer more runs v h =
      let (each, rest) = each_has item top i (layer.List n ∷ outer) more runs v h in (
        EachLeaf-map item i (Onward (layer.List n ∷ outer) runs v) (λ d j ty path. Onward outer runs v d j ty (layer.List n ∷ path))
            (λ d j ty path a b c x. subst (HasSlots runs v d j ty) (onward (layer.List n) outer path) x) each,
        rest,
      )
  each_has (field id name n (struct members)) top i outer more runs v h = members_have members n 0 top i outer more runs v h
  each_has (field id name n (primitive p)) top i outer more runs v h =
      let (one, rest) = one_has (record { id = id; top = top; ty = primitive p; layers = layer.Item n ∷ outer }) more runs i v h in
      (one ∙ alone_slots (primitive p) n outer v, rest)
  each_has (field id name n (vector p k)) top i outer more runs v h =
      let (one, rest) = one_has (record { id = id; top = top; ty = vector p k; layers = layer.Item n ∷ outer }) more runs i v h in
      (one ∙ alone_slots (vector p k) n outer v, rest)
  each_has (field id name n text) top i outer more runs v h =
      let (one, rest) = one_has (record { id = id; top = top; ty = text; layers = layer.Item n ∷ outer }) more runs i v h in
      (one ∙ alone_slots text n outer v, rest)
  each_has (field id name n bytes) top i outer more runs v h =
      let (one, rest) = one_has (record { id = id; top = top; ty = bytes; layers = layer.Item n ∷ outer }) more runs i v h in
      (one ∙ alone_slots bytes n outer v, rest)

  pub members_have : (fs : PlainFields ℕ) (n : Bool) (m top i : ℕ) (outer : List Layer) (more : List PlainLeaf) (runs : List SlotRun) (v : PlainValue)
      → HaveSlots (leaves_of_members fs n m top outer ++ more) (drop i runs) v → EachLeafOf fs n m i (Onward outer runs v) × HaveSlots more (drop (i + leaf_count_of fs) runs) v
  members_have no_fields n m top i outer more runs v h =
      let e : i ≡ i + 0 = omega arith in
      (tt, subst (λ (k : ℕ). HaveSlots more (drop k runs) v) e h)
  members_have (one_field f fs) n m top i outer more runs v h =
      let front = leaves_of f top (layer.Struct n m ∷ outer) in
      let back = leaves_of_members fs n (m + 1) top outer in
      let (each, rest) = each_has f top i (layer.Struct n m ∷ outer) (back ++ more) runs v
      (subst (λ (ls : List PlainLeaf). HaveSlots ls (drop i runs) v) (append_assoc front back more) h) in
      let (others, last) = members_have fs n (m + 1) top (i + leaf_count f) outer more runs v rest in
      let e : i + leaf_count f + leaf_count_of fs ≡ i + (leaf_count f + leaf_count_of fs) = omega arith in (
        (
          EachLeaf-map f i (Onward (layer.Struct n m ∷ outer) runs v) (λ d j ty path. Onward outer runs v d j ty (layer.Struct n m ∷ path))
              (λ d j ty path a b c x. subst (HasSlots runs v d j ty) (onward (layer.Struct n m) outer path) x) each,
          subst (λ (k : ℕ). EachLeafOf fs n k (i + leaf_count f) (Onward outer runs v)) (add-one m) others,
        ),
        subst (λ (k : ℕ). HaveSlots more (drop k runs) v) e last,
      )

mutual
  pub have_each : (f : PlainField ℕ) (top i : ℕ) (outer : List Layer) (more : List PlainLeaf) (runs : List SlotRun) (v : PlainValue) → i + leaf_count f ≤ length runs
      → EachLeaf f i (Onward outer runs v) → HaveSlots more (drop (i + leaf_count f) runs) v → HaveSlots (leaves_of f top outer ++ more) (drop i runs) v
  have_each (field id name n (list item)) top i outer more runs v le h rest =
      have_each item top i (layer.List n ∷ outer) more runs v le
      (EachLeaf-map item i (λ d j ty path. Onward outer runs v d j ty (layer.List n ∷ path)) (Onward (layer.List n ∷ outer) runs v)
      (λ d j ty path a b c x. subst (HasSlots runs v d j ty) (sym (onward (layer.List n) outer path)) x) h)
      rest
  have_each (field id name n (struct members)) top i outer more runs v le h rest = have_members members n 0 top i outer more runs v le h rest
  have_each (field id name n (primitive p)) top i outer more runs v le h rest =
      have_one (record { id = id; top = top; ty = primitive p; layers = layer.Item n ∷ outer }) more runs i v (omega arith) (h ∙ sym (alone_slots (primitive p) n outer v)) rest
  have_each (field id name n (vector p k)) top i outer more runs v le h rest =
      have_one (record { id = id; top = top; ty = vector p k; layers = layer.Item n ∷ outer }) more runs i v (omega arith) (h ∙ sym (alone_slots (vector p k) n outer v)) rest
  have_each (field id name n text) top i outer more runs v le h rest =
      have_one (record { id = id; top = top; ty = text; layers = layer.Item n ∷ outer }) more runs i v (omega arith) (h ∙ sym (alone_slots text n outer v)) rest
  have_each (field id name n bytes) top i outer more runs v le h rest =
      have_one (record { id = id; top = top; ty = bytes; layers = layer.Item n ∷ outer }) more runs i v (omega arith) (h ∙ sym (alone_slots bytes n outer v)) rest

  pub have_members : (fs : PlainFields ℕ) (n : Bool) (m top i : ℕ) (outer : List Layer) (more : List PlainLeaf) (runs : List SlotRun) (v : PlainValue) → i + leaf_count_of fs ≤ length runs
      → EachLeafOf fs n m i (Onward outer runs v) → HaveSlots more (drop (i + leaf_count_of fs) runs) v → HaveSlots (leaves_of_members fs n m top outer ++ more) (drop i runs) v
  have_members no_fields n m top i outer more runs v le h rest =
      let e : i + 0 ≡ i = omega arith in
      subst (λ (k : ℕ). HaveSlots more (drop k runs) v) e rest
  have_members (one_field f fs) n m top i outer more runs v le h rest =
      let front = leaves_of f top (layer.Struct n m ∷ outer) in
      let back = leaves_of_members fs n (m + 1) top outer in
      let e : i + (leaf_count f + leaf_count_of fs) ≡ i + leaf_count f + leaf_count_of fs = omega arith in
      subst (λ (ls : List PlainLeaf). HaveSlots ls (drop i runs) v) (sym (append_assoc front back more))
      (have_each f top i (layer.Struct n m ∷ outer) (back ++ more) runs v (omega arith)
      (EachLeaf-map f i (λ d j ty path. Onward outer runs v d j ty (layer.Struct n m ∷ path)) (Onward (layer.Struct n m ∷ outer) runs v)
      (λ d j ty path a b c x. subst (HasSlots runs v d j ty) (sym (onward (layer.Struct n m) outer path)) x) h.0)
      (have_members fs n (m + 1) top (i + leaf_count f) outer more runs v (omega arith)
      (subst (λ (k : ℕ). EachLeafOf fs n k (i + leaf_count f) (Onward outer runs v)) (sym (add-one m)) h.1)
      (subst (λ (k : ℕ). HaveSlots more (drop k runs) v) e rest)))

-- from the runs to the leaves
pub leaves_have : (f : PlainField ℕ) (runs : List SlotRun) (v : PlainValue) → HaveSlots (leaves_of f 0 []) runs v → EachLeaf f 0 (HasSlots runs v)
leaves_have f runs v h = (each_has f 0 0 [] [] runs v (subst (λ (ls : List PlainLeaf). HaveSlots ls runs v) (sym (append-nil (leaves_of f 0 []))) h)).0

drop_whole : (runs : List SlotRun) → drop (length runs) runs ≡ []
drop_whole [] = refl
drop_whole (run ∷ runs) = drop_whole runs

-- from the leaves to the runs
pub runs_have : (f : PlainField ℕ) (runs : List SlotRun) (v : PlainValue) → length runs ≡ leaf_count f → EachLeaf f 0 (HasSlots runs v) → HaveSlots (leaves_of f 0 []) runs v
runs_have f runs v count h =
    let end : drop (0 + leaf_count f) runs ≡ [] = let e : 0 + leaf_count f ≡ length runs = omega arith in ap (λ (k : ℕ). drop k runs) e ∙ drop_whole runs in
    subst (λ (ls : List PlainLeaf). HaveSlots ls runs v) (append-nil (leaves_of f 0 []))
    (have_each f 0 0 [] [] runs v (omega arith) h (subst (λ (rest : List SlotRun). HaveSlots [] rest v) (sym end) tt))

-- the numbers of the leaves, in order
abbrev mutual
  leaf_ids : PlainField ℕ → List ℕ
  leaf_ids (field id name n (list item)) = leaf_ids item
  leaf_ids (field id name n (struct members)) = ids_of members
  leaf_ids (field id name n ty) = id ∷ []

  ids_of : PlainFields ℕ → List ℕ
  ids_of no_fields = []
  ids_of (one_field f fs) = leaf_ids f ++ ids_of fs

abbrev id_of : PlainLeaf → ℕ
id_of l = l.id

map_both : (xs ys : List PlainLeaf) → map id_of (xs ++ ys) ≡ map id_of xs ++ map id_of ys
map_both [] ys = refl
map_both (x ∷ xs) ys = ap (λ (s : List ℕ). x.id ∷ s) (map_both xs ys)

mutual
  leaf_ids-are : (f : PlainField ℕ) (top : ℕ) (outer : List Layer) → map id_of (leaves_of f top outer) ≡ leaf_ids f
  leaf_ids-are (field id name n (list item)) top outer = leaf_ids-are item top (layer.List n ∷ outer)
  leaf_ids-are (field id name n (struct members)) top outer = ids_of-are members n 0 top outer
  leaf_ids-are (field id name n (primitive p)) top outer = refl
  leaf_ids-are (field id name n (vector p k)) top outer = refl
  leaf_ids-are (field id name n text) top outer = refl
  leaf_ids-are (field id name n bytes) top outer = refl

  ids_of-are : (fs : PlainFields ℕ) (n : Bool) (m top : ℕ) (outer : List Layer) → map id_of (leaves_of_members fs n m top outer) ≡ ids_of fs
  ids_of-are no_fields n m top outer = refl
  ids_of-are (one_field f fs) n m top outer =
      map_both (leaves_of f top (layer.Struct n m ∷ outer)) (leaves_of_members fs n (m + 1) top outer)
      ∙ ap (λ (s : List ℕ). s ++ map id_of (leaves_of_members fs n (m + 1) top outer)) (leaf_ids-are f top (layer.Struct n m ∷ outer))
      ∙ ap (λ (s : List ℕ). leaf_ids f ++ s) (ids_of-are fs n (m + 1) top outer)

mutual
  length-leaf_ids : (f : PlainField ℕ) → length (leaf_ids f) ≡ leaf_count f
  length-leaf_ids (field id name n (list item)) = length-leaf_ids item
  length-leaf_ids (field id name n (struct members)) = length-ids_of members
  length-leaf_ids (field id name n (primitive p)) = refl
  length-leaf_ids (field id name n (vector p k)) = refl
  length-leaf_ids (field id name n text) = refl
  length-leaf_ids (field id name n bytes) = refl

  length-ids_of : (fs : PlainFields ℕ) → length (ids_of fs) ≡ leaf_count_of fs
  length-ids_of no_fields = refl
  length-ids_of (one_field f fs) = omega (arith, length-append (leaf_ids f) (ids_of fs), length-leaf_ids f, length-ids_of fs)

length_map : (runs : List SlotRun) → length (map (λ (run : SlotRun). run.leaf) runs) ≡ length runs
length_map [] = refl
length_map (run ∷ runs) = omega (arith, length_map runs)

-- there is a run for each leaf
pub run_count : (f : PlainField ℕ) (runs : List SlotRun) → AreRunsOf f runs → length runs ≡ leaf_count f
run_count f runs h = sym (length_map runs) ∙ ap (length {A = ℕ}) (h ∙ leaf_ids-are f 0 []) ∙ length-leaf_ids f

abbrev Named : ℕ → ℕ → ℕ → ℕ → PlainType ℕ → List Layer → Type 0
Named id at d j ty path = (d ≡ id) × (j ≡ at)

get_part : (xs ys : List ℕ) (k id : ℕ) → slice_get (xs ++ ys) k ≡ Some id → (slice_get xs k ≡ Some id) ⊎ ((l : ℕ) × (k ≡ length xs + l) × (slice_get ys l ≡ Some id))
get_part [] ys k id h = inr (k, omega arith, h)
get_part (x ∷ xs) ys zero id h = inl h
get_part (x ∷ xs) ys (suc k) id h = elim (get_part xs ys k id h) [ inl p ↦ inl p | inr p ↦ inr (p.0, (let e : k ≡ length xs + p.0 = p.1 in omega arith), p.2) ]

get_one : (x k id : ℕ) → slice_get (x ∷ []) k ≡ Some id → (x ≡ id) × (k ≡ 0)
get_one x zero id h = let e : x ≡ id = cc in (e, refl)
get_one x (suc k) id h = absurd (cc)

one_named : (x i k id : ℕ) → slice_get (x ∷ []) k ≡ Some id → (x ≡ id) × (i ≡ i + k)
one_named x i k id h = let p = get_one x k id h in (p.0, let e : k ≡ 0 = p.1 in omega arith)

-- in the first member or in those after it
named_part : (f : PlainField ℕ) (fs : PlainFields ℕ) (n : Bool) (m i k id : ℕ)
    → (slice_get (leaf_ids f) k ≡ Some id) ⊎ ((l : ℕ) × (k ≡ length (leaf_ids f) + l) × (slice_get (ids_of fs) l ≡ Some id))
    → (slice_get (leaf_ids f) k ≡ Some id → SomeLeaf f i (Named id (i + k)))
    → ((l : ℕ) → slice_get (ids_of fs) l ≡ Some id → SomeLeafOf fs n (suc m) (i + leaf_count f) (Named id (i + leaf_count f + l)))
    → SomeLeafOf (one_field f fs) n m i (Named id (i + k))
named_part f fs n m i k id (inl h) first later = inl (first h)
named_part f fs n m i k id (inr h) first later =
    let at : k ≡ length (leaf_ids f) + h.0 = h.1 in
    let count : length (leaf_ids f) ≡ leaf_count f = length-leaf_ids f in
    inr (SomeLeafOf-map fs n (suc m) (i + leaf_count f) (Named id (i + leaf_count f + h.0)) (Named id (i + k)) (λ d j ty path a b c x. (x.0, let e : j ≡ i + leaf_count f + h.0 = x.1 in omega arith))
    (later h.0 h.2))

mutual
  leaf_named : (f : PlainField ℕ) (i k id : ℕ) → slice_get (leaf_ids f) k ≡ Some id → SomeLeaf f i (Named id (i + k))
  leaf_named (field d name n (list item)) i k id h = leaf_named item i k id h
  leaf_named (field d name n (struct members)) i k id h = member_named members n 0 i k id h
  leaf_named (field d name n (primitive p)) i k id h = one_named d i k id h
  leaf_named (field d name n (vector p c)) i k id h = one_named d i k id h
  leaf_named (field d name n text) i k id h = one_named d i k id h
  leaf_named (field d name n bytes) i k id h = one_named d i k id h

  member_named : (fs : PlainFields ℕ) (n : Bool) (m i k id : ℕ) → slice_get (ids_of fs) k ≡ Some id → SomeLeafOf fs n m i (Named id (i + k))
  member_named no_fields n m i k id h = absurd (cc)
  member_named (one_field f fs) n m i k id h =
      named_part f fs n m i k id (get_part (leaf_ids f) (ids_of fs) k id h) (λ x. leaf_named f i k id x) (λ l x. member_named fs n (suc m) (i + leaf_count f) l id x)

get_run : (runs : List SlotRun) (j : ℕ) (run : SlotRun) → slice_get runs j ≡ Some run → slice_get (map (λ (r : SlotRun). r.leaf) runs) j ≡ Some run.leaf
get_run [] j run h = absurd (cc)
get_run (r ∷ runs) zero run h = let e : r ≡ run = cc in ap (λ (x : SlotRun). Some x.leaf) e
get_run (r ∷ runs) (suc j) run h = get_run runs j run h

-- the run at a place is of a leaf of its number there
pub run_named : (f : PlainField ℕ) (runs : List SlotRun) (j : ℕ) (run : SlotRun) → AreRunsOf f runs → slice_get runs j ≡ Some run → SomeLeaf f 0 (λ d k ty path. (d ≡ run.leaf) × (k ≡ j))
run_named f runs j run h e =
    let ids : slice_get (leaf_ids f) j ≡ Some run.leaf = subst (λ (xs : List ℕ). slice_get xs j ≡ Some run.leaf) (h ∙ leaf_ids-are f 0 []) (get_run runs j run e) in
    SomeLeaf-map f 0 (Named run.leaf (0 + j)) (λ d k ty path. (d ≡ run.leaf) × (k ≡ j)) (λ d k ty path a b c x. (x.0, let at : k ≡ 0 + j = x.1 in omega arith)) (leaf_named f 0 j run.leaf ids)
