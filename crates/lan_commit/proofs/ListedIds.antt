-- The ids that the lists of a data file of fields have: they differ, and those with a column of their own are the leaves'.
use Rattle.std.proofs.Common.{◌≡◌, ◌≢◌, inl, inr, refl, sym, ◌∙◌, ap, subst, ℕ, zero, suc, ◌+◌, ◌^◌, ◌<◌, Bool, true, false, cond, not, List, [], ◌∷◌, ◌++◌, length, get_or, arith, append-nil}
use Rattle.std.specs.Prelude.{ℤ, ◌&&◌, ◌||◌, All, AllPairs, IsTrue, nat_eq}
use Rattle.std.specs.List.{AllByRecursion, list_all, list_any}
use Rattle.std.proofs.lemmas.Bool.{and_parts, cases_Bool, eq-eqb, or_parts, or_right, true≢false}
use Rattle.std.proofs.lemmas.List.{length-append, length-map, map-append}
use Rattle.std.proofs.lemmas.List.Elements.{All-cons}
use Rattle.lan_levels.specs.EachLeaf.{leaf_count, leaf_count_of}
use Rattle.lan_model.specs.Plain.{primitive, vector, text, bytes as binary, list, struct, PlainField, field, PlainFields, no_fields, one_field}
use Rattle.lan_model.specs.Table.{IsField, AreFields, names_of}
use Rattle.lan_schema.specs.FieldTree.{signed}
use Rattle.lan_schema.specs.Forest.{Trees, none, tree, same, Absent, Apart, AreDistinct}
use Rattle.lan_schema.specs.Listed.{is_negative}
use Rattle.lan_schema.specs.Written.{CanTell, CanTellAll, tree_before, trees_of}
use Rattle.lan_schema.proofs.ForestLaws.{same_is, same_self}
use Rattle.lan_schema.proofs.WrittenTrees.{small_signed}
use Rattle.lan_wire.specs.Readers.{IsInt32}
use Rattle.lan_manifest.specs.FragmentRules.{are_indexed, is_whole, may_lack, repeats}
use Rattle.lan_manifest.specs.SchemaLeaves.{all_leaf_ids, is_listed, leaf_ids, top_of, tops_of}
use Rattle.lan_read.specs.Listings.{all_listings, columns_in, ids_in, Listing, listings_of}

-- ---- lists in which no number stands twice

abbrev Unlisted : List ℤ → ℤ → Type 0
Unlisted zs z = is_listed zs z ≡ false

abbrev pub Once : List ℤ → Type 0
Once [] = Unit {0}
Once (z ∷ zs) = Unlisted zs z × Once zs

-- none of the first list is in the second
abbrev AllUnlisted : List ℤ → List ℤ → Type 0
AllUnlisted [] zs = Unit {0}
AllUnlisted (x ∷ xs) zs = Unlisted zs x × AllUnlisted xs zs

no_either : (a b : Bool) → a ≡ false → b ≡ false → (a || b) ≡ false
no_either true b h k = absurd (cc h)
no_either false b h k = k

not_same : (y z : ℤ) → (y ≡ z → ⊥) → same y z ≡ false
not_same y z other = elim (cases_Bool (same y z)) [ inl is ↦ absurd (other (same_is y z is)) | inr differs ↦ differs ]

turned : (y z : ℤ) → same y z ≡ false → same z y ≡ false
turned y z differs = not_same z y (λ is. true≢false (sym (same_self y) ∙ ap (same y) (sym is) ∙ differs))

unlisted_append : (xs ys : List ℤ) (z : ℤ) → Unlisted xs z → Unlisted ys z → Unlisted (xs ++ ys) z
unlisted_append [] ys z h k = k
unlisted_append (x ∷ xs) ys z h k =
    let (here, later) = or_parts (same x z) (is_listed xs z) h in
    no_either (same x z) (is_listed (xs ++ ys) z) here (unlisted_append xs ys z later k)

once_append : (xs ys : List ℤ) → Once xs → Once ys → AllUnlisted xs ys → Once (xs ++ ys)
once_append [] ys o p a = p
once_append (x ∷ xs) ys o p a = (unlisted_append xs ys x o.0 a.0, once_append xs ys o.1 p a.1)

all_unlisted_append : (xs ys zs : List ℤ) → AllUnlisted xs zs → AllUnlisted ys zs → AllUnlisted (xs ++ ys) zs
all_unlisted_append [] ys zs a b = b
all_unlisted_append (x ∷ xs) ys zs a b = (a.0, all_unlisted_append xs ys zs a.1 b)

unlisted_at : (zs : List ℤ) (z : ℤ) (k : ℕ) (d : ℤ) → Unlisted zs z → k < length zs → get_or zs k d ≡ z → ⊥
unlisted_at [] z k d h below is = absurd (omega (arith, below))
unlisted_at (y ∷ zs) z zero d h below is = true≢false (sym (same_self y) ∙ ap (same y) is ∙ (or_parts (same y z) (is_listed zs z) h).0)
unlisted_at (y ∷ zs) z (suc k) d h below is = unlisted_at zs z k d (or_parts (same y z) (is_listed zs z) h).1 (omega (arith, below)) is

pub once_pairs : (zs : List ℤ) → Once zs → AllPairs (λ x y. x ≢ y) zs
once_pairs [] o i j d before within = absurd (omega (arith, within))
once_pairs (z ∷ zs) o zero zero d before within = absurd (omega (arith, before))
once_pairs (z ∷ zs) o (suc i) zero d before within = absurd (omega (arith, before))
once_pairs (z ∷ zs) o zero (suc j) d before within = λ is. unlisted_at zs z j d o.0 (omega (arith, within)) (sym is)
once_pairs (z ∷ zs) o (suc i) (suc j) d before within = once_pairs zs o.1 i j d (omega (arith, before)) (omega (arith, within))

-- ---- the numbers of trees

abbrev tree_ids : Trees → List ℤ
tree_ids none = []
tree_ids (tree l inside others) = l.id ∷ (tree_ids inside ++ tree_ids others)

absent_unlisted : (z : ℤ) (ts : Trees) → Absent z ts → Unlisted (tree_ids ts) z
absent_unlisted z none h = refl
absent_unlisted z (tree l inside others) h =
    no_either (same l.id z) (is_listed (tree_ids inside ++ tree_ids others) z) (not_same l.id z h.0) (unlisted_append (tree_ids inside) (tree_ids others) z (absent_unlisted z inside h.1) (absent_unlisted z others h.2))

apart_unlisted : (ts more : Trees) → Apart ts more → AllUnlisted (tree_ids ts) (tree_ids more)
apart_unlisted none more h = tt
apart_unlisted (tree l inside others) more h =
    (absent_unlisted l.id more h.0, all_unlisted_append (tree_ids inside) (tree_ids others) (tree_ids more) (apart_unlisted inside more h.1) (apart_unlisted others more h.2))

distinct_once : (ts : Trees) → AreDistinct ts → Once (tree_ids ts)
distinct_once none d = tt
distinct_once (tree l inside others) d = (
  unlisted_append (tree_ids inside) (tree_ids others) l.id (absent_unlisted l.id inside d.0) (absent_unlisted l.id others d.1),
  once_append (tree_ids inside) (tree_ids others) (distinct_once inside d.3) (distinct_once others d.4) (apart_unlisted inside others d.2),
)

-- the lists have them in the same order
mutual
  field_ids : (f : PlainField ℕ) (column : ℕ) (others : Trees) → tree_ids (tree_before f others) ≡ ids_in (listings_of f column) ++ tree_ids others
  field_ids (field id name n (list item)) column others =
      ap (λ (zs : List ℤ). signed id ∷ (zs ++ tree_ids others)) (field_ids item column none ∙ append-nil (ids_in (listings_of item column)))
  field_ids (field id name n (struct members)) column others = ap (λ (zs : List ℤ). signed id ∷ (zs ++ tree_ids others)) (all_ids members column)
  field_ids (field id name n (primitive p)) column others = refl
  field_ids (field id name n (vector p k)) column others = refl
  field_ids (field id name n text) column others = refl
  field_ids (field id name n binary) column others = refl

  all_ids : (fs : PlainFields ℕ) (column : ℕ) → tree_ids (trees_of fs) ≡ ids_in (all_listings fs column)
  all_ids no_fields column = refl
  all_ids (one_field f fs) column =
      field_ids f column (trees_of fs) ∙ ap (λ (zs : List ℤ). ids_in (listings_of f column) ++ zs) (all_ids fs (column + leaf_count f))
      ∙ sym (map-append (λ (l : Listing). signed l.id) (listings_of f column) (all_listings fs (column + leaf_count f)))

pub ids_once : (fs : PlainFields ℕ) (column : ℕ) → AreDistinct (trees_of fs) → Once (ids_in (all_listings fs column))
ids_once fs column d = subst Once (all_ids fs column) (distinct_once (trees_of fs) d)

and_false : (b : Bool) → (b && false) ≡ false
and_false true = refl
and_false false = refl

-- no leaf is given twice
pub no_repeats : (is_leaf : ℤ → Bool) (zs : List ℤ) → Once zs → repeats is_leaf zs ≡ false
no_repeats is_leaf [] o = refl
no_repeats is_leaf (z ∷ zs) o =
    no_either (is_leaf z && is_listed zs z) (repeats is_leaf zs) (ap (λ (b : Bool). is_leaf z && b) o.0 ∙ and_false (is_leaf z)) (no_repeats is_leaf zs o.1)

-- ---- the leaves among them

-- the ids with a column of their own
abbrev leaves_in : List Listing → List ℤ
leaves_in [] = []
leaves_in (l ∷ ls) = cond (is_negative l.column) (leaves_in ls) (signed l.id ∷ leaves_in ls)

cond_append : (b : Bool) (z : ℤ) (xs ys zs : List ℤ) → zs ≡ xs ++ ys → cond b zs (z ∷ zs) ≡ cond b xs (z ∷ xs) ++ ys
cond_append true z xs ys zs is = is
cond_append false z xs ys zs is = ap (λ (l : List ℤ). z ∷ l) is

leaves_append : (xs ys : List Listing) → leaves_in (xs ++ ys) ≡ leaves_in xs ++ leaves_in ys
leaves_append [] ys = refl
leaves_append (x ∷ xs) ys = cond_append (is_negative x.column) (signed x.id) (leaves_in xs) (leaves_in ys) (leaves_in (xs ++ ys)) (leaves_append xs ys)

mutual
  field_leaf_ids : (f : PlainField ℕ) (column : ℕ) → leaf_ids f ≡ leaves_in (listings_of f column)
  field_leaf_ids (field id name n (list item)) column = field_leaf_ids item column
  field_leaf_ids (field id name n (struct members)) column = all_leaves members column
  field_leaf_ids (field id name n (primitive p)) column = refl
  field_leaf_ids (field id name n (vector p k)) column = refl
  field_leaf_ids (field id name n text) column = refl
  field_leaf_ids (field id name n binary) column = refl

  all_leaves : (fs : PlainFields ℕ) (column : ℕ) → all_leaf_ids fs ≡ leaves_in (all_listings fs column)
  all_leaves no_fields column = refl
  all_leaves (one_field f fs) column =
      ap (λ (zs : List ℤ). zs ++ all_leaf_ids fs) (field_leaf_ids f column) ∙ ap (λ (zs : List ℤ). leaves_in (listings_of f column) ++ zs) (all_leaves fs (column + leaf_count f))
      ∙ sym (leaves_append (listings_of f column) (all_listings fs (column + leaf_count f)))

cond_unlisted : (b : Bool) (y z : ℤ) (zs : List ℤ) → same y z ≡ false → Unlisted zs z → Unlisted (cond b zs (y ∷ zs)) z
cond_unlisted true y z zs differs h = h
cond_unlisted false y z zs differs h = no_either (same y z) (is_listed zs z) differs h

leaves_unlisted : (ls : List Listing) (z : ℤ) → Unlisted (ids_in ls) z → Unlisted (leaves_in ls) z
leaves_unlisted [] z h = refl
leaves_unlisted (l ∷ ls) z h =
    let (here, later) = or_parts (same (signed l.id) z) (is_listed (ids_in ls) z) h in
    cond_unlisted (is_negative l.column) (signed l.id) z (leaves_in ls) here (leaves_unlisted ls z later)

-- none of those without a column of their own is such a number
abbrev ParentsAreNone : (ℤ → Bool) → List Listing → Type 0
ParentsAreNone is_leaf [] = Unit {0}
ParentsAreNone is_leaf (l ∷ ls) = (is_negative l.column ≡ true → is_leaf (signed l.id) ≡ false) × ParentsAreNone is_leaf ls

parents_beside : (b : Bool) (y : ℤ) (zs : List ℤ) (ls : List Listing) → Unlisted (ids_in ls) y → ParentsAreNone (is_listed zs) ls → ParentsAreNone (is_listed (cond b zs (y ∷ zs))) ls
parents_beside b y zs [] h ps = tt
parents_beside b y zs (l ∷ ls) h ps =
    let (here, later) = or_parts (same (signed l.id) y) (is_listed (ids_in ls) y) h in
    (λ negative. cond_unlisted b y (signed l.id) zs (turned (signed l.id) y here) (ps.0 negative), parents_beside b y zs ls later ps.1)

parents_are_none : (ls : List Listing) → Once (ids_in ls) → ParentsAreNone (is_listed (leaves_in ls)) ls
parents_are_none [] o = tt
parents_are_none (l ∷ ls) o = (
  λ negative. ap (λ (b : Bool). is_listed (cond b (leaves_in ls) (signed l.id ∷ leaves_in ls)) (signed l.id)) negative ∙ leaves_unlisted ls (signed l.id) o.0,
  parents_beside (is_negative l.column) (signed l.id) (leaves_in ls) ls o.0 (parents_are_none ls o.1),
)

not_both : (a b c : Bool) → (b ≡ true → a ≡ false) → c ≡ true → (not (a && b) && c) ≡ true
not_both true true c h e = absurd (cc (h refl))
not_both true false c h e = e
not_both false b c h e = e

indexed : (is_leaf : ℤ → Bool) (ls : List Listing) → ParentsAreNone is_leaf ls → are_indexed is_leaf (ids_in ls) (columns_in ls) ≡ true
indexed is_leaf [] ps = refl
indexed is_leaf (l ∷ ls) ps = not_both (is_leaf (signed l.id)) (is_negative l.column) (are_indexed is_leaf (ids_in ls) (columns_in ls)) ps.0 (indexed is_leaf ls ps.1)

-- each leaf has a column
pub lists_indexed : (fs : PlainFields ℕ) (column : ℕ) → AreDistinct (trees_of fs) → are_indexed (is_listed (all_leaf_ids fs)) (ids_in (all_listings fs column)) (columns_in (all_listings fs column)) ≡ true
lists_indexed fs column d =
    let ls = all_listings fs column in
    ap (λ (zs : List ℤ). are_indexed (is_listed zs) (ids_in ls) (columns_in ls)) (all_leaves fs column) ∙ indexed (is_listed (leaves_in ls)) ls (parents_are_none ls (ids_once fs column d))

pub lists_long : (ls : List Listing) → nat_eq (length (ids_in ls)) (length (columns_in ls)) ≡ true
lists_long ls = eq-eqb _ _ (length-map ls (λ (l : Listing). signed l.id) ∙ sym (length-map ls (λ (l : Listing). l.column)))

-- ---- each top field is given whole

abbrev EachIsGiven : (ℤ → Bool) → List Listing → Type 0
EachIsGiven given [] = Unit {0}
EachIsGiven given (l ∷ ls) = (given (signed l.id) ≡ true) × EachIsGiven given ls

given_beside : (y : ℤ) (zs : List ℤ) (ls : List Listing) → EachIsGiven (is_listed zs) ls → EachIsGiven (is_listed (y ∷ zs)) ls
given_beside y zs [] g = tt
given_beside y zs (l ∷ ls) g = (or_right (same y (signed l.id)) (is_listed zs (signed l.id)) g.0, given_beside y zs ls g.1)

all_given : (ls : List Listing) → EachIsGiven (is_listed (ids_in ls)) ls
all_given [] = tt
all_given (l ∷ ls) = (ap (λ (b : Bool). b || is_listed (ids_in ls) (signed l.id)) (same_self (signed l.id)), given_beside (signed l.id) (ids_in ls) ls (all_given ls))

given_parts : (given : ℤ → Bool) (xs ys : List Listing) → EachIsGiven given (xs ++ ys) → EachIsGiven given xs × EachIsGiven given ys
given_parts given [] ys g = (tt, g)
given_parts given (x ∷ xs) ys g = let p = given_parts given xs ys g.1 in ((g.0, p.0), p.1)

cond_all : (b : Bool) (given : ℤ → Bool) (z : ℤ) (zs : List ℤ) → given z ≡ true → list_all given zs ≡ true → list_all given (cond b zs (z ∷ zs)) ≡ true
cond_all true given z zs here later = later
cond_all false given z zs here later = ap (λ (b : Bool). b && list_all given zs) here ∙ later

leaves_given : (given : ℤ → Bool) (ls : List Listing) → EachIsGiven given ls → list_all given (leaves_in ls) ≡ true
leaves_given given [] g = refl
leaves_given given (l ∷ ls) g = cond_all (is_negative l.column) given (signed l.id) (leaves_in ls) g.0 (leaves_given given ls g.1)

mutual
  some_id : (f : PlainField ℕ) → IsField f → 0 < length (leaf_ids f)
  some_id (field id name n (list item)) is = some_id item is
  some_id (field id name n (struct members)) is = some_ids members is.0.0 is.1
  some_id (field id name n (primitive p)) is = omega arith
  some_id (field id name n (vector p k)) is = omega arith
  some_id (field id name n text) is = omega arith
  some_id (field id name n binary) is = omega arith

  some_ids : (fs : PlainFields ℕ) → 0 < length (names_of fs) → AreFields fs → 0 < length (all_leaf_ids fs)
  some_ids no_fields some are = absurd (omega (arith, some))
  some_ids (one_field f fs) some are = omega (arith, some_id f are.0, length-append (leaf_ids f) (all_leaf_ids fs))

any_of_all : (given : ℤ → Bool) (zs : List ℤ) → 0 < length zs → list_all given zs ≡ true → list_any given zs ≡ true
any_of_all given [] some all = absurd (omega (arith, some))
any_of_all given (z ∷ zs) some all = ap (λ (b : Bool). b || list_any given zs) (and_parts (given z) (list_all given zs) all).0

tops_given : (given : ℤ → Bool) (fs : PlainFields ℕ) (column : ℕ) → AreFields fs → EachIsGiven given (all_listings fs column) → All (λ top. IsTrue (is_whole given top) × IsTrue (may_lack given top)) (tops_of fs)
tops_given given no_fields column are g = λ k d below. absurd (omega (arith, below))
tops_given given (one_field (field id name n ty) fs) column are g =
    let f : PlainField ℕ = field id name n ty in
    let p = given_parts given (listings_of f column) (all_listings fs (column + leaf_count f)) g in
    let all : list_all given (leaf_ids f) ≡ true = ap (list_all given) (field_leaf_ids f column) ∙ leaves_given given (listings_of f column) p.0 in
    let any : list_any given (leaf_ids f) ≡ true = any_of_all given (leaf_ids f) (some_id f are.0) all in
    All-cons (λ top. IsTrue (is_whole given top) × IsTrue (may_lack given top)) (top_of f) (tops_of fs)
    (ap (λ (b : Bool). b || not (list_any given (leaf_ids f))) all, or_right n (list_any given (leaf_ids f)) any) (tops_given given fs (column + leaf_count f) are.1 p.1)

-- each top field is given whole, and so lacks nothing
pub each_given : (fs : PlainFields ℕ) (column : ℕ) → AreFields fs → All (λ top. IsTrue (is_whole (is_listed (ids_in (all_listings fs column))) top) × IsTrue (may_lack (is_listed (ids_in (all_listings fs column))) top)) (tops_of fs)
each_given fs column are = tops_given (is_listed (ids_in (all_listings fs column))) fs column are (all_given (all_listings fs column))

-- ---- the lists can be written

ints_append : (xs ys : List ℤ) → AllByRecursion IsInt32 xs → AllByRecursion IsInt32 ys → AllByRecursion IsInt32 (xs ++ ys)
ints_append [] ys a b = b
ints_append (x ∷ xs) ys a b = (a.0, ints_append xs ys a.1 b)

small_id : (id : ℕ) → id < 2 ^ 31 → IsInt32 (signed id)
small_id id small = subst IsInt32 (sym (small_signed id small)) small

mutual
  field_ints : (f : PlainField ℕ) (column : ℕ) → CanTell f → AllByRecursion IsInt32 (ids_in (listings_of f column))
  field_ints (field id name n (list item)) column told = (small_id id told.0, field_ints item column told.2)
  field_ints (field id name n (struct members)) column told = (small_id id told.0, ids_ints members column told.2)
  field_ints (field id name n (primitive p)) column told = (small_id id told.0, tt)
  field_ints (field id name n (vector p k)) column told = (small_id id told.0, tt)
  field_ints (field id name n text) column told = (small_id id told.0, tt)
  field_ints (field id name n binary) column told = (small_id id told.0, tt)

  pub ids_ints : (fs : PlainFields ℕ) (column : ℕ) → CanTellAll fs → AllByRecursion IsInt32 (ids_in (all_listings fs column))
  ids_ints no_fields column told = tt
  ids_ints (one_field f fs) column told =
      subst (AllByRecursion IsInt32) (sym (map-append (λ (l : Listing). signed l.id) (listings_of f column) (all_listings fs (column + leaf_count f))))
      (ints_append (ids_in (listings_of f column)) (ids_in (all_listings fs (column + leaf_count f))) (field_ints f column told.0) (ids_ints fs (column + leaf_count f) told.1))

mutual
  field_columns : (f : PlainField ℕ) (column : ℕ) → column + leaf_count f < 2 ^ 31 → AllByRecursion IsInt32 (columns_in (listings_of f column))
  field_columns (field id name n (list item)) column small = (omega arith, field_columns item column small)
  field_columns (field id name n (struct members)) column small = (omega arith, columns_ints members column small)
  field_columns (field id name n (primitive p)) column small = (omega (arith, small), tt)
  field_columns (field id name n (vector p k)) column small = (omega (arith, small), tt)
  field_columns (field id name n text) column small = (omega (arith, small), tt)
  field_columns (field id name n binary) column small = (omega (arith, small), tt)

  pub columns_ints : (fs : PlainFields ℕ) (column : ℕ) → column + leaf_count_of fs < 2 ^ 31 → AllByRecursion IsInt32 (columns_in (all_listings fs column))
  columns_ints no_fields column small = tt
  columns_ints (one_field f fs) column small =
      subst (AllByRecursion IsInt32) (sym (map-append (λ (l : Listing). l.column) (listings_of f column) (all_listings fs (column + leaf_count f))))
      (ints_append (columns_in (listings_of f column)) (columns_in (all_listings fs (column + leaf_count f))) (field_columns f column (omega (arith, small))) (columns_ints fs (column + leaf_count f) (omega (arith, small))))
