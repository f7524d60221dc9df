-- The trees of a table's fields obey the rules.
use Rattle.std.proofs.Common.{◌≡◌, ℕ, zero, suc, ◌+◌, ◌^◌, ◌<◌, ◌≤◌, Bool, true, false, cond, List, [], ◌∷◌, ◌++◌, length, length-append, refl, sym, ap, subst, ◌∙◌, arith, negsuc}
use Rattle.std.specs.Prelude.{ℤ, not, nat_lt, ◌&&◌, ◌≢◌, is_some, Option, All, AllPairs}
use Rattle.std.specs.Str.{bytes_eq}
use Rattle.std.proofs.lemmas.Bool.{le-ltb, lt-ltb, eq-eqb}
use Rattle.std.proofs.lemmas.Slice.Eq.{bytes_eq-Decides}
use Rattle.lan_model.specs.Plain.{PlainType, primitive, vector, text, bytes, list, struct, PlainField, field, PlainFields, no_fields, one_field}
use Rattle.lan_model.specs.Table.{name_of, names_of, IsField, AreFields, HasNamedItems, HaveNamedItems, depths_of, all_depths}
use Rattle.lan_schema.specs.declared.shape.Shape.{Shape}
use Rattle.lan_schema.specs.declared.shape.Shape.TheVariants as shape
use Rattle.lan_schema.specs.FieldMessage.{Flat}
use Rattle.lan_schema.specs.FieldTree.{list_name, logical_of, signed}
use Rattle.lan_schema.specs.FieldTree as texts
use Rattle.lan_schema.specs.FieldsOf.{ObeyRules}
use Rattle.lan_schema.specs.Forest.{Trees, none, laid, AreDistinct}
use Rattle.lan_schema.specs.Listed.{is_negative, leaves_in}
use Rattle.lan_schema.specs.Logical.{leaf_type, IsLeafType}
use Rattle.lan_schema.specs.Shapes.{shape_of, takes}
use Rattle.lan_schema.specs.Written.{trees_in, tree_before, trees_of, CanTellType, CanTell, CanTellAll, AreTableFields}
use Rattle.lan_schema.proofs.ForestLaws.{not_true}
use Rattle.lan_schema.proofs.LaidRules.{width, Unlike, IsSound, AreSound, laid_rules}
use Rattle.lan_schema.proofs.LeafNames.{names_leaf}
use Rattle.lan_schema.proofs.TreesAgain.{shape_list, shape_name, shape_vector, shape_text, shape_bytes, shape_struct}
use Rattle.lan_schema.proofs.WrittenTrees.{small_signed, top_absent}

-- ---- names

abbrev pub AllSome : List (List ℕ) → Type 0
AllSome names = All (λ (name : List ℕ). 0 < length name) names

abbrev pub AllApart : List (List ℕ) → Type 0
AllApart names = AllPairs (λ (a b : List ℕ). a ≢ b) names

abbrev pub Shallow : List ℕ → Type 0
Shallow depths = All (λ (depth : ℕ). depth ≤ 16) depths

pub names_first : {I : Type 0} (f : PlainField I) (fs : PlainFields I) → names_of (one_field f fs) ≡ name_of f ∷ names_of fs
names_first (field id name nullable ty) fs = refl

head_some : (name : List ℕ) (names : List (List ℕ)) → AllSome (name ∷ names) → 0 < length name
head_some name names h = h zero name (omega arith)

tail_some : (name : List ℕ) (names : List (List ℕ)) → AllSome (name ∷ names) → AllSome names
tail_some name names h = λ k d lt. h (suc k) d (omega (arith, lt))

tail_apart : (name : List ℕ) (names : List (List ℕ)) → AllApart (name ∷ names) → AllApart names
tail_apart name names h = λ i j d lt in_range. h (suc i) (suc j) d (omega (arith, lt)) (omega (arith, in_range))

head_apart : (name : List ℕ) (names : List (List ℕ)) → AllApart (name ∷ names) → All (λ (other : List ℕ). name ≢ other) names
head_apart name names h = λ k d lt. h zero (suc k) d (omega arith) (omega (arith, lt))

front_shallow : (a b : List ℕ) → Shallow (a ++ b) → Shallow a
front_shallow [] b h = λ k d lt. absurd (omega (arith, lt))
front_shallow (x ∷ a) b h = shallow_cons x a (h zero x (omega arith)) (front_shallow a b (λ k d lt. h (suc k) d (omega (arith, lt)))) where
  shallow_cons : (x : ℕ) (a : List ℕ) → x ≤ 16 → Shallow a → Shallow (x ∷ a)
  shallow_cons x a here later zero d lt = here
  shallow_cons x a here later (suc k) d lt = later k d (omega (arith, lt))

back_shallow : (a b : List ℕ) → Shallow (a ++ b) → Shallow b
back_shallow [] b h = h
back_shallow (x ∷ a) b h = back_shallow a b (λ k d lt. h (suc k) d (omega (arith, lt)))

differ : (a b : List ℕ) → a ≢ b → bytes_eq a b ≡ false
differ a b h = not_true (bytes_eq a b) (λ e. h ((bytes_eq-Decides a b).0 e))

unlike_before : (name : List ℕ) (f : PlainField ℕ) (others : Trees) → name ≢ name_of f → Unlike name others → Unlike name (tree_before f others)
unlike_before name (field id other nullable ty) others h u = (differ name other h, u)

unlike_all : (name : List ℕ) (fs : PlainFields ℕ) → All (λ (other : List ℕ). name ≢ other) (names_of fs) → Unlike name (trees_of fs)
unlike_all name no_fields h = tt
unlike_all name (one_field f fs) h =
    let cut : All (λ (other : List ℕ). name ≢ other) (name_of f ∷ names_of fs) = subst (λ (names : List (List ℕ)). All (λ (other : List ℕ). name ≢ other) names) (names_first f fs) h in
    unlike_before name f (trees_of fs) (cut zero name (omega arith)) (unlike_all name fs (λ k d lt. cut (suc k) d (omega (arith, lt))))

nameless : (name : List ℕ) → 0 < length name → bytes_eq name [] ≡ false
nameless [] h = absurd (omega (arith, h))
nameless (b ∷ bs) h = refl

-- ---- how many fields and leaves there are

width_before : (f : PlainField ℕ) (others : Trees) → width (tree_before f others) ≡ width others + 1
width_before (field id name nullable ty) others = refl

width_names : (fs : PlainFields ℕ) → width (trees_of fs) ≡ length (names_of fs)
width_names no_fields = refl
width_names (one_field f fs) = omega (arith, width_before f (trees_of fs), width_names fs, ap length (names_first f fs))

cond_more : (b : Bool) (m n k : ℕ) → m ≡ n + k → cond b (m + 1) m ≡ cond b (n + 1) n + k
cond_more true m n k e = omega (arith, e)
cond_more false m n k e = e

leaves_append : (xs ys : List Flat) → leaves_in (xs ++ ys) ≡ leaves_in xs + leaves_in ys
leaves_append [] ys = omega arith
leaves_append (x ∷ xs) ys = cond_more (takes (shape_of x.logical) 0) (leaves_in (xs ++ ys)) (leaves_in xs) (leaves_in ys) (leaves_append xs ys)

by_others : (b : Bool) (m n : ℕ) → b ≡ false → m ≡ n → cond b (m + 1) m ≡ n
by_others true m n h e = absurd (cc h)
by_others false m n h e = e

leaf_alone : (logical : List ℕ) (k : ℕ) → shape_of logical ≡ shape.Leaf → cond (takes (shape_of logical) 0) (k + 1) k ≡ 1 + k
leaf_alone logical k e = ap (λ (s : Shape). cond (takes s 0) (k + 1) k) e ∙ omega arith

mutual
  -- the field and those inside it, and others
  leaves_field : (ty : PlainType ℕ) (id : ℕ) (name : List ℕ) (nullable : Bool) (others : Trees) (p : ℤ) (outer : ℕ) → leaves_in (laid p (tree_before (field id name nullable ty) others)) ≡ length (depths_of (field id name nullable ty) outer) + leaves_in (laid p others)
  leaves_field (primitive q) id name nullable others p outer = leaf_alone (texts.name_of q) (leaves_in (laid p others)) (shape_name q)
  leaves_field (vector q n) id name nullable others p outer = leaf_alone (logical_of (vector q n)) (leaves_in (laid p others)) (shape_vector q n)
  leaves_field text id name nullable others p outer = leaf_alone (logical_of text) (leaves_in (laid p others)) shape_text
  leaves_field bytes id name nullable others p outer = leaf_alone (logical_of bytes) (leaves_in (laid p others)) shape_bytes
  leaves_field (list item) id name nullable others p outer =
      let inside = laid (signed id) (tree_before item none) in
      by_others (takes (shape_of (list_name item)) 0) (leaves_in (inside ++ laid p others)) (length (depths_of item (outer + 1)) + leaves_in (laid p others))
      (ap (λ (s : Shape). takes s 0) (shape_list item))
      (omega (arith, leaves_append inside (laid p others), leaves_before item none (signed id) (outer + 1)))
  leaves_field (struct members) id name nullable others p outer =
      let inside = laid (signed id) (trees_of members) in
      by_others (takes (shape_of (logical_of (struct members))) 0) (leaves_in (inside ++ laid p others)) (length (all_depths members (outer + 1)) + leaves_in (laid p others))
      (ap (λ (s : Shape). takes s 0) (shape_struct members))
      (omega (arith, leaves_append inside (laid p others), leaves_all members (signed id) (outer + 1)))

  leaves_before : (f : PlainField ℕ) (others : Trees) (p : ℤ) (outer : ℕ) → leaves_in (laid p (tree_before f others)) ≡ length (depths_of f outer) + leaves_in (laid p others)
  leaves_before (field id name nullable ty) others p outer = leaves_field ty id name nullable others p outer

  pub leaves_all : (fs : PlainFields ℕ) (p : ℤ) (outer : ℕ) → leaves_in (laid p (trees_of fs)) ≡ length (all_depths fs outer)
  leaves_all no_fields p outer = refl
  leaves_all (one_field f fs) p outer =
      leaves_before f (trees_of fs) p outer
      ∙ omega (arith, leaves_all fs p outer, length-append (depths_of f outer) (all_depths fs outer))

-- ---- each field in its place

-- what is asked of a field of this shape
sound_by : (s : Shape) (outer id : ℕ) (name logical : List ℕ) (nullable : Bool) (inside others : Trees) → shape_of logical ≡ s → id < 2 ^ 31 → 0 < length name → Unlike name others → (takes s 0 && not (is_some (leaf_type logical))) ≡ false → takes s (width inside) ≡ true → (takes s 0 && nat_lt 16 (outer + 1)) ≡ false
    → IsSound outer (record { name = name; id = signed id; logical = logical; nullable = nullable }) inside others
sound_by s outer id name logical nullable inside others e small some unlike typed count shallow = record {
  id = ap is_negative (small_signed id small);
  name = nameless name some;
  unlike = unlike;
  typed = subst (λ (t : Shape). (takes t 0 && not (is_some (leaf_type logical))) ≡ false) (sym e) typed;
  count = subst (λ (t : Shape). takes t (width inside) ≡ true) (sym e) count;
  shallow = subst (λ (t : Shape). (takes t 0 && nat_lt 16 (outer + 1)) ≡ false) (sym e) shallow;
}

sound_leaf : (ty : PlainType ℕ) (outer id : ℕ) (name : List ℕ) (nullable : Bool) (others : Trees) → shape_of (logical_of ty) ≡ shape.Leaf → IsLeafType ty → id < 2 ^ 31 → 0 < length name → Unlike name others → Shallow ((outer + 1) ∷ [])
    → IsSound outer (record { name = name; id = signed id; logical = logical_of ty; nullable = nullable }) none others
sound_leaf ty outer id name nullable others e leaf small some unlike shallow =
    sound_by shape.Leaf outer id name (logical_of ty) nullable none others e small some unlike (ap (λ (o : Option (PlainType ℕ)). not (is_some o)) (names_leaf ty leaf)) refl (le-ltb 16 (outer + 1) (shallow zero 0 (omega arith)))

sound_field : (ty : PlainType ℕ) (outer id : ℕ) (name : List ℕ) (nullable : Bool) (others : Trees) → id < 2 ^ 31 → 0 < length name → IsField (field id name nullable ty) → Unlike name others → Shallow (depths_of (field id name nullable ty) outer)
    → IsSound outer (record { name = name; id = signed id; logical = logical_of ty; nullable = nullable }) (trees_in ty) others
sound_field (primitive q) outer id name nullable others small some h unlike shallow = sound_leaf (primitive q) outer id name nullable others (shape_name q) tt small some unlike shallow
sound_field (vector q n) outer id name nullable others small some h unlike shallow = sound_leaf (vector q n) outer id name nullable others (shape_vector q n) h small some unlike shallow
sound_field text outer id name nullable others small some h unlike shallow = sound_leaf text outer id name nullable others shape_text tt small some unlike shallow
sound_field bytes outer id name nullable others small some h unlike shallow = sound_leaf bytes outer id name nullable others shape_bytes tt small some unlike shallow
sound_field (list item) outer id name nullable others small some h unlike shallow =
    sound_by shape.List outer id name (list_name item) nullable (tree_before item none) others (shape_list item) small some unlike refl (eq-eqb (width (tree_before item none)) 1 (omega (arith, width_before item none))) refl
sound_field (struct members) outer id name nullable others small some h unlike shallow =
    sound_by shape.Struct outer id name (logical_of (struct members)) nullable (trees_of members) others (shape_struct members) small some unlike refl (lt-ltb 0 (width (trees_of members)) (omega (arith, width_names members, h.0.0))) refl

mutual
  sound_inside : (ty : PlainType ℕ) (outer id : ℕ) (name : List ℕ) (nullable : Bool) → CanTellType ty → IsField (field id name nullable ty) → HasNamedItems (field id name nullable ty) → Shallow (depths_of (field id name nullable ty) outer) → AreSound (outer + 1) (trees_in ty)
  sound_inside (primitive q) outer id name nullable told h items shallow = tt
  sound_inside (vector q n) outer id name nullable told h items shallow = tt
  sound_inside text outer id name nullable told h items shallow = tt
  sound_inside bytes outer id name nullable told h items shallow = tt
  sound_inside (list item) outer id name nullable told h items shallow = sound_before item none (outer + 1) told h items.1 items.0 shallow tt tt
  sound_inside (struct members) outer id name nullable told h items shallow = sound_all members (outer + 1) told h.1 items h.0.1 h.0.2 shallow

  sound_before : (f : PlainField ℕ) (others : Trees) (outer : ℕ) → CanTell f → IsField f → HasNamedItems f → 0 < length (name_of f) → Shallow (depths_of f outer) → Unlike (name_of f) others → AreSound outer others → AreSound outer (tree_before f others)
  sound_before (field id name nullable ty) others outer told h items some shallow unlike beside =
      (sound_field ty outer id name nullable others told.0 some h unlike shallow, sound_inside ty outer id name nullable told.2 h items shallow, beside)

  sound_all : (fs : PlainFields ℕ) (outer : ℕ) → CanTellAll fs → AreFields fs → HaveNamedItems fs → AllSome (names_of fs) → AllApart (names_of fs) → Shallow (all_depths fs outer) → AreSound outer (trees_of fs)
  sound_all no_fields outer told h items some apart shallow = tt
  sound_all (one_field f fs) outer told h items some apart shallow =
      let cut : AllSome (name_of f ∷ names_of fs) = subst AllSome (names_first f fs) some in
      let pairs : AllApart (name_of f ∷ names_of fs) = subst AllApart (names_first f fs) apart in
      sound_before f (trees_of fs) outer told.0 h.0 items.0 (head_some (name_of f) (names_of fs) cut) (front_shallow (depths_of f outer) (all_depths fs outer) shallow)
      (unlike_all (name_of f) fs (head_apart (name_of f) (names_of fs) pairs))
      (sound_all fs outer told.1 h.1 items.1 (tail_some (name_of f) (names_of fs) cut) (tail_apart (name_of f) (names_of fs) pairs) (back_shallow (depths_of f outer) (all_depths fs outer) shallow))

-- fields of a table, with distinct numbers that messages can tell
pub table_rules : (fs : PlainFields ℕ) → AreTableFields fs → CanTellAll fs → AreDistinct (trees_of fs) → ObeyRules (laid (negsuc 0) (trees_of fs))
table_rules no_fields t told d = absurd (omega (arith, t.named.0))
table_rules (one_field (field id name nullable ty) fs) t told d =
    let all : PlainFields ℕ = one_field (field id name nullable ty) fs in
    laid_rules (record { name = name; id = signed id; logical = logical_of ty; nullable = nullable }) (trees_in ty) (trees_of fs) d (top_absent all told)
    (sound_all all 0 told t.each t.items t.named.1 t.named.2 t.layers)
    (omega (arith, leaves_all all (negsuc 0) 0, t.leaves))
