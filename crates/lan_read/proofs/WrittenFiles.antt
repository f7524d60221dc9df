-- A data file of a writer's lists, whose columns have the slots of rows, gives these rows.
use Rattle.std.proofs.Common.{◌≡◌, inl, inr, sym, ◌∙◌, ap, ap₂, refl, ℕ, zero, suc, ◌+◌, ◌<◌, Bool, List, [], ◌∷◌, ◌++◌, length, get_or, map, arith, subst}
use Rattle.std.specs.Prelude.{◌⊎◌, ◌≢◌, All, AllPairs, Some, slice_get, option_map, pos}
use Rattle.std.proofs.lemmas.List.{get_or-map, length-append, length-map, map-append}
use Rattle.std.proofs.lemmas.Option.{same_Some, slice_get-get_or, slice_get-map, slice_get_within, get_or_from_slice_get}
use Rattle.std.proofs.lemmas.List.Elements.{All-head}
use Rattle.lan_model.specs.declared.tree.Layer.{Layer}
use Rattle.lan_model.specs.declared.tree.Layer.TheVariants as layer
use Rattle.lan_model.specs.Fits.{AllFit}
use Rattle.lan_model.specs.Leaves.{PlainLeaf, leaves_of, leaves_of_members, leaves_from}
use Rattle.lan_model.specs.Plain.{primitive, vector, text, bytes as binary, list, struct, PlainField, field, PlainFields, no_fields, one_field, PlainValue, fields_from, values_from}
use Rattle.lan_model.specs.Table.{AreFields, FitsRow}
use Rattle.lan_levels.proofs.Leaves.{All-parts}
use Rattle.lan_levels.specs.EachLeaf.{leaf_count, leaf_count_of}
use Rattle.lan_levels.specs.PlainSlots.{PlainSlot}
use Rattle.lan_levels.specs.SlotsOf.{rows_slots}
use Rattle.lan_schema.specs.FieldsOf.{natural}
use Rattle.lan_schema.specs.FieldTree.{signed}
use Rattle.lan_store.specs.declared.name.Object.{Object}
use Rattle.lan_file.specs.FileOf.{IsFileOf}
use Rattle.lan_file.specs.Heads.{Pick}
use Rattle.lan_manifest.specs.declared.manifest.DataFile.{DataFile}
use Rattle.lan_manifest.specs.declared.manifest.Fragment.{Fragment}
use Rattle.lan_read.specs.Changes.{AddsFile, FileHolds, GivesNone, new_fragment}
use Rattle.lan_read.specs.Given.{AllGiven, GivenIn, NoneGiven}
use Rattle.lan_read.specs.Listings.{all_listings, file_of_fields, ids_in, IsFileOfRows, Listing, listings_of, picks_from, rows_of_one}
use Rattle.lan_read.specs.Rows.{column_slots, FragmentGives, HoldsColumn, IsDataFile, IsHeld, values_at, data_name}
use Rattle.lan_read.proofs.ChangedRows.{fragment_new}
use Rattle.lan_read.proofs.LeafTops.{below_top, column_by_itself, no_column}
use Rattle.lan_read.proofs.RowSlots.{rows_slots-is}
use Rattle.lan_read.proofs.RowLists.{column_long, Row}

mutual
  leaves_below : (f : PlainField ℕ) (top : ℕ) (outer : List Layer) → leaves_of f top outer ≡ map (below_top top) (leaves_of f 0 outer)
  leaves_below (field id name n (list item)) top outer = leaves_below item top (layer.List n ∷ outer)
  leaves_below (field id name n (struct members)) top outer = members_below members n 0 top outer
  leaves_below (field id name n (primitive p)) top outer = refl
  leaves_below (field id name n (vector p k)) top outer = refl
  leaves_below (field id name n text) top outer = refl
  leaves_below (field id name n binary) top outer = refl

  members_below : (fs : PlainFields ℕ) (n : Bool) (m top : ℕ) (outer : List Layer) → leaves_of_members fs n m top outer ≡ map (below_top top) (leaves_of_members fs n m 0 outer)
  members_below no_fields n m top outer = refl
  members_below (one_field f fs) n m top outer =
      ap₂ (λ (a b : List PlainLeaf). a ++ b) (leaves_below f top (layer.Struct n m ∷ outer)) (members_below fs n (m + 1) top outer)
      ∙ sym (map-append (below_top top) (leaves_of f 0 (layer.Struct n m ∷ outer)) (leaves_of_members fs n (m + 1) 0 outer))

leaves_at : (P : PlainLeaf → Type 0) (fields : List (PlainField ℕ)) (from top : ℕ) (f : PlainField ℕ) → slice_get fields top ≡ Some f → All P (leaves_from (fields_from fields) from) → All P (leaves_of f (from + top) [])
leaves_at P [] from top f at each = absurd (cc at)
leaves_at P (g ∷ fields) from zero f at each =
    let same : g ≡ f = cc in
    let place : from ≡ from + 0 = omega arith in
    subst (λ (n : ℕ). All P (leaves_of f n [])) place (subst (λ (x : PlainField ℕ). All P (leaves_of x from [])) same (All-parts P (leaves_of g from []) (leaves_from (fields_from fields) (from + 1)) each).0)
leaves_at P (g ∷ fields) from (suc top) f at each =
    let place : from + 1 + top ≡ from + suc top = omega arith in
    subst (λ (n : ℕ). All P (leaves_of f n [])) place (leaves_at P fields (from + 1) top f at (All-parts P (leaves_of g from []) (leaves_from (fields_from fields) (from + 1)) each).1)

-- what holds of all leaves in order holds of those of the field at a place
field_leaves : (P : PlainLeaf → Type 0) (fields : List (PlainField ℕ)) (top : ℕ) (f : PlainField ℕ) → slice_get fields top ≡ Some f → All P (leaves_from (fields_from fields) 0) → All (λ leaf. P (below_top top leaf)) (leaves_of f 0 [])
field_leaves P fields top f at each k d below =
    let place : 0 + top ≡ top = omega arith in
    let here : All P (map (below_top top) (leaves_of f 0 [])) = subst (All P) (leaves_below f top []) (subst (λ (n : ℕ). All P (leaves_of f n [])) place (leaves_at P fields 0 top f at each)) in
    subst P (get_or-map (below_top top) (leaves_of f 0 []) k d (below_top top d) below) (here k (below_top top d) (omega (arith, below, length-map (leaves_of f 0 []) (below_top top))))

either_order : (k j : ℕ) → (k < j) ⊎ ((k ≡ j) ⊎ (j < k))
either_order zero zero = inr (inl refl)
either_order zero (suc j) = inl (omega arith)
either_order (suc k) zero = inr (inr (omega arith))
either_order (suc k) (suc j) = elim (either_order k j) [
  | inl less ↦ inl (omega (arith, less))
  | inr (inl same) ↦ inr (inl (ap suc same))
  | inr (inr more) ↦ inr (inr (omega (arith, more)))
]

one_place : {X : Type 0} (xs : List X) (k j : ℕ) (x : X) → AllPairs (λ x y. x ≢ y) xs → slice_get xs k ≡ Some x → slice_get xs j ≡ Some x → k ≡ j
one_place xs k j x distinct a b =
    let at_k : get_or xs k x ≡ x = get_or_from_slice_get xs k x x a in
    let at_j : get_or xs j x ≡ x = get_or_from_slice_get xs j x x b in
    elim (either_order k j) [
      | inl less ↦ absurd (distinct k j x less (slice_get_within xs j x b) (at_k ∙ sym at_j))
      | inr (inl same) ↦ same
      | inr (inr more) ↦ absurd (distinct j k x more (slice_get_within xs k x a) (at_j ∙ sym at_k))
    ]

-- a file whose ids differ gives a field in one column
given_one : (file : DataFile) (id a b : ℕ) → AllPairs (λ x y. x ≢ y) file.ids → GivenIn file id a → GivenIn file id b → a ≡ b
given_one file id a b distinct (k, id_at_k, at_k) (j, id_at_j, at_j) =
    let place = one_place file.ids k j (signed id) distinct id_at_k id_at_j in
    let same : Some (pos a) ≡ Some (pos b) = sym at_k ∙ ap (slice_get file.columns) place ∙ at_j in
    ap natural (same_Some (pos a) (pos b) same)

-- what holds of the leaves at the places from `i` on
abbrev Placed : (ℕ → PlainLeaf → Type 0) → ℕ → List PlainLeaf → Type 0
Placed P i [] = Unit {0}
Placed P i (leaf ∷ leaves) = P i leaf × Placed P (i + 1) leaves

placed_append : (P : ℕ → PlainLeaf → Type 0) (i n : ℕ) (xs ys : List PlainLeaf) → length xs ≡ n → Placed P i xs → Placed P (i + n) ys → Placed P i (xs ++ ys)
placed_append P i n [] ys long a b =
    let place : i + n ≡ i = omega (arith, long) in
    subst (λ (k : ℕ). Placed P k ys) place b
placed_append P i zero (x ∷ xs) ys long a b = absurd (omega (arith, long))
placed_append P i (suc n) (x ∷ xs) ys long a b =
    let place : i + suc n ≡ i + 1 + n = omega arith in
    (a.0, placed_append P (i + 1) n xs ys (omega (arith, long)) a.1 (subst (λ (k : ℕ). Placed P k ys) place b))

placed_map : (P Q : ℕ → PlainLeaf → Type 0) (i : ℕ) (xs : List PlainLeaf) → ((k : ℕ) (leaf : PlainLeaf) → P k leaf → Q k leaf) → Placed P i xs → Placed Q i xs
placed_map P Q i [] step a = tt
placed_map P Q i (x ∷ xs) step a = (step i x a.0, placed_map P Q (i + 1) xs step a.1)

-- the leaf is listed in the column of this place
abbrev IsListed : List Listing → ℕ → PlainLeaf → Type 0
IsListed listings i leaf = (k : ℕ) × (slice_get listings k ≡ Some (record { id = leaf.id; column = pos i }))

listed_left : (xs ys : List Listing) (k : ℕ) (x : Listing) → slice_get xs k ≡ Some x → slice_get (xs ++ ys) k ≡ Some x
listed_left [] ys k x at = absurd (cc at)
listed_left (z ∷ xs) ys zero x at = at
listed_left (z ∷ xs) ys (suc k) x at = listed_left xs ys k x at

listed_right : (xs ys : List Listing) (k : ℕ) → slice_get (xs ++ ys) (length xs + k) ≡ slice_get ys k
listed_right [] ys k = ap (slice_get ys) (let e : 0 + k ≡ k = omega arith in e)
listed_right (x ∷ xs) ys k = ap (slice_get (x ∷ (xs ++ ys))) (let e : suc (length xs) + k ≡ suc (length xs + k) = omega arith in e) ∙ listed_right xs ys k

mutual
  leaves_counted : (f : PlainField ℕ) (top : ℕ) (outer : List Layer) → length (leaves_of f top outer) ≡ leaf_count f
  leaves_counted (field id name n (list item)) top outer = leaves_counted item top (layer.List n ∷ outer)
  leaves_counted (field id name n (struct members)) top outer = members_counted members n 0 top outer
  leaves_counted (field id name n (primitive p)) top outer = refl
  leaves_counted (field id name n (vector p k)) top outer = refl
  leaves_counted (field id name n text) top outer = refl
  leaves_counted (field id name n binary) top outer = refl

  members_counted : (fs : PlainFields ℕ) (n : Bool) (m top : ℕ) (outer : List Layer) → length (leaves_of_members fs n m top outer) ≡ leaf_count_of fs
  members_counted no_fields n m top outer = refl
  members_counted (one_field f fs) n m top outer =
      omega (arith, length-append (leaves_of f top (layer.Struct n m ∷ outer)) (leaves_of_members fs n (m + 1) top outer), leaves_counted f top (layer.Struct n m ∷ outer), members_counted fs n (m + 1) top outer)

-- those in a part of the listings are in all of them
both_listed : (xs ys : List Listing) (n i : ℕ) (first later : List PlainLeaf) → length first ≡ n → Placed (IsListed xs) i first → Placed (IsListed ys) (i + n) later → Placed (IsListed (xs ++ ys)) i (first ++ later)
both_listed xs ys n i first later long a b =
    placed_append (IsListed (xs ++ ys)) i n first later long
    (placed_map (IsListed xs) (IsListed (xs ++ ys)) i first (λ k leaf found. (found.0, listed_left xs ys found.0 _ found.1)) a)
    (placed_map (IsListed ys) (IsListed (xs ++ ys)) (i + n) later (λ k leaf found. (length xs + found.0, listed_right xs ys found.0 ∙ found.1)) b)

behind_first : (x : Listing) (xs : List Listing) (i : ℕ) (leaves : List PlainLeaf) → Placed (IsListed xs) i leaves → Placed (IsListed (x ∷ xs)) i leaves
behind_first x xs i leaves a = placed_map (IsListed xs) (IsListed (x ∷ xs)) i leaves (λ k leaf found. (suc found.0, found.1)) a

mutual
  leaf_listings : (f : PlainField ℕ) (i top : ℕ) (outer : List Layer) → Placed (IsListed (listings_of f i)) i (leaves_of f top outer)
  leaf_listings (field id name n (list item)) i top outer = behind_first _ (listings_of item i) i (leaves_of item top (layer.List n ∷ outer)) (leaf_listings item i top (layer.List n ∷ outer))
  leaf_listings (field id name n (struct members)) i top outer = behind_first _ (all_listings members i) i (leaves_of_members members n 0 top outer) (member_listings members n 0 i top outer)
  leaf_listings (field id name n (primitive p)) i top outer = ((0, refl), tt)
  leaf_listings (field id name n (vector p k)) i top outer = ((0, refl), tt)
  leaf_listings (field id name n text) i top outer = ((0, refl), tt)
  leaf_listings (field id name n binary) i top outer = ((0, refl), tt)

  member_listings : (fs : PlainFields ℕ) (n : Bool) (m i top : ℕ) (outer : List Layer) → Placed (IsListed (all_listings fs i)) i (leaves_of_members fs n m top outer)
  member_listings no_fields n m i top outer = tt
  member_listings (one_field f fs) n m i top outer =
      both_listed (listings_of f i) (all_listings fs (i + leaf_count f)) (leaf_count f) i (leaves_of f top (layer.Struct n m ∷ outer)) (leaves_of_members fs n (m + 1) top outer)
      (leaves_counted f top (layer.Struct n m ∷ outer)) (leaf_listings f i top (layer.Struct n m ∷ outer)) (member_listings fs n (m + 1) (i + leaf_count f) top outer)

field_listings : (fs : PlainFields ℕ) (i top : ℕ) → Placed (IsListed (all_listings fs i)) i (leaves_from fs top)
field_listings no_fields i top = tt
field_listings (one_field f fs) i top =
    both_listed (listings_of f i) (all_listings fs (i + leaf_count f)) (leaf_count f) i (leaves_of f top []) (leaves_from fs (top + 1)) (leaves_counted f top []) (leaf_listings f i top []) (field_listings fs (i + leaf_count f) (top + 1))

placed_at : (P : ℕ → PlainLeaf → Type 0) (i : ℕ) (xs : List PlainLeaf) (k : ℕ) (d : PlainLeaf) → k < length xs → Placed P i xs → P (i + k) (get_or xs k d)
placed_at P i [] k d below a = absurd (omega (arith, below))
placed_at P i (x ∷ xs) zero d below a =
    let place : i ≡ i + 0 = omega arith in
    subst (λ (n : ℕ). P n x) place a.0
placed_at P i (x ∷ xs) (suc k) d below a =
    let place : i + 1 + k ≡ i + suc k = omega arith in
    subst (λ (n : ℕ). P n (get_or xs k d)) place (placed_at P (i + 1) xs k d (omega (arith, below)) a.1)

-- it gives the leaf at each place in the column of that place
pub leaf_given : (path : List ℕ) (fields : List (PlainField ℕ)) (k : ℕ) (d : PlainLeaf) → k < length (leaves_from (fields_from fields) 0) → GivenIn (file_of_fields path fields) (get_or (leaves_from (fields_from fields) 0) k d).id k
leaf_given path fields k d below =
    let listings = all_listings (fields_from fields) 0 in
    let place : 0 + k ≡ k = omega arith in
    let (j, at) = subst (λ (n : ℕ). IsListed listings n (get_or (leaves_from (fields_from fields) 0) k d)) place (placed_at (IsListed listings) 0 (leaves_from (fields_from fields) 0) k d below (field_listings (fields_from fields) 0 0)) in
    (j, slice_get-map (λ (l : Listing). signed l.id) listings j ∙ ap (option_map (λ (l : Listing). signed l.id)) at, slice_get-map (λ (l : Listing). l.column) listings j ∙ ap (option_map (λ (l : Listing). l.column)) at)

-- and, where the ids differ, in no other
pub leaf_only : (path : List ℕ) (fields : List (PlainField ℕ)) (k : ℕ) (d : PlainLeaf) (index : ℕ) → AllPairs (λ x y. x ≢ y) (ids_in (all_listings (fields_from fields) 0)) → k < length (leaves_from (fields_from fields) 0)
    → GivenIn (file_of_fields path fields) (get_or (leaves_from (fields_from fields) 0) k d).id index → index ≡ k
leaf_only path fields k d index distinct below by = given_one (file_of_fields path fields) (get_or (leaves_from (fields_from fields) 0) k d).id index k distinct by (leaf_given path fields k d below)

all_given : (path : List ℕ) (fields : List (PlainField ℕ)) → All (AllGiven (file_of_fields path fields ∷ [])) fields
all_given path fields t e within k d below =
    let file = file_of_fields path fields in
    let at = slice_get-get_or fields t e within in
    let (column, by) = field_leaves (λ (leaf : PlainLeaf). (column : ℕ) × GivenIn file leaf.id column) fields t (get_or fields t e) at (λ k d below. (k, leaf_given path fields k d below)) k d below in
    record { file = file; is_one = (0, omega arith, refl); column = column; listed = by }

pick_at : (leaves : List PlainLeaf) (from k : ℕ) (d : PlainLeaf) → k < length leaves → slice_get (picks_from from leaves) k ≡ Some (record { column = from + k; leaf = get_or leaves k d })
pick_at [] from k d below = absurd (omega (arith, below))
pick_at (leaf ∷ leaves) from zero d below = ap (λ (n : ℕ). Some (record { column = n; leaf = leaf })) (let e : from ≡ from + 0 = omega arith in e)
pick_at (leaf ∷ leaves) from (suc k) d below = pick_at leaves (from + 1) k d (omega (arith, below)) ∙ ap (λ (n : ℕ). Some (record { column = n; leaf = get_or leaves k d })) (let e : from + 1 + k ≡ from + suc k = omega arith in e)

-- the column of a leaf has the slots of the values of its top field
abbrev ColumnIs : List ℕ → List Row → ℕ → ℕ → PlainLeaf → Type 0
ColumnIs bytes rows column top leaf = HoldsColumn bytes column leaf (values_at top rows)

column_holds : (fields : List (PlainField ℕ)) (bytes : List ℕ) (rows : List Row) → IsFileOfRows fields bytes rows
    → (k top : ℕ) (d leaf : PlainLeaf) → k < length (leaves_from (fields_from fields) 0) → get_or (leaves_from (fields_from fields) 0) k d ≡ below_top top leaf → ColumnIs bytes rows k top leaf
column_holds fields bytes rows file k top d leaf below is =
    let leaves = leaves_from (fields_from fields) 0 in
    let slots : PlainLeaf → List PlainSlot = λ (leaf : PlainLeaf). rows_slots leaf (map values_from rows) in
    let place : 0 + k ≡ k = omega arith in
    let pick : slice_get (picks_from 0 leaves) k ≡ Some (record { column = k; leaf = below_top top leaf }) =
    pick_at leaves 0 k d below ∙ ap (λ (n : ℕ). Some (record { column = n; leaf = get_or leaves k d })) place ∙ ap (λ (l : PlainLeaf). Some (record { column = k; leaf = l })) is in
    let found : slice_get (map slots leaves) k ≡ Some (slots (below_top top leaf)) =
    slice_get-map slots leaves k ∙ ap (option_map slots) (slice_get-get_or leaves k d below) ∙ ap (λ (l : PlainLeaf). Some (slots l)) is in
    let own = column_by_itself (picks_from 0 leaves) bytes (length rows) k k top leaf (map slots leaves) (slots (below_top top leaf)) pick found file in
    let picks : List Pick = record { column = k; leaf = leaf } ∷ [] in
    subst (λ (n : ℕ). IsFileOf picks bytes n (column_slots leaf (values_at top rows) ∷ [])) (sym (column_long top rows))
    (subst (λ (l : List PlainSlot). IsFileOf picks bytes (length rows) (l ∷ [])) (rows_slots-is (below_top top leaf) rows) own)

-- such a file holds the rows
pub file_holds : (objects : List Object) (path : List ℕ) (fields : List (PlainField ℕ)) (rows : List Row) → AllPairs (λ x y. x ≢ y) (ids_in (all_listings (fields_from fields) 0)) → IsHeld objects (data_name path) (λ bytes. IsFileOfRows fields bytes rows)
    → FileHolds objects fields (file_of_fields path fields) rows
file_holds objects path fields rows distinct held = record {
  is_file = record { bytes = held.bytes; held = held.held; size = held.size; says = no_column (picks_from 0 (leaves_from (fields_from fields) 0)) held.bytes (length rows) held.says.columns held.says.head };
  columns = λ top f at k d below column by.
      let leaf = get_or (leaves_of f 0 []) k d in
      let Mine : PlainLeaf → Type 0 = λ (l : PlainLeaf). (column : ℕ) → GivenIn (file_of_fields path fields) l.id column → (top : ℕ) (leaf : PlainLeaf) → l ≡ below_top top leaf → ColumnIs held.bytes rows column top leaf in
      let each : All Mine (leaves_from (fields_from fields) 0) = λ j e within n given t l is.
      let place : n ≡ j = leaf_only path fields j e n distinct within given in
      subst (λ (c : ℕ). ColumnIs held.bytes rows c t l) (sym place) (column_holds fields held.bytes rows held.says j t e l within is) in
      record { bytes = held.bytes; held = held.held; size = held.size; says = field_leaves Mine fields top f at each k d below column by top leaf refl };
}

-- a new fragment of it gives them
pub fragment_written : (objects : List Object) (path : List ℕ) (fields : List (PlainField ℕ)) (id : ℕ) (rows : List Row) → AreFields (fields_from fields) → AllPairs (λ x y. x ≢ y) (ids_in (all_listings (fields_from fields) 0)) → All (FitsRow fields) rows
    → IsHeld objects (data_name path) (λ bytes. IsFileOfRows fields bytes rows) → FragmentGives objects fields (new_fragment id (file_of_fields path fields) (length rows)) rows
fragment_written objects path fields id rows are distinct fit held = fragment_new objects fields id (file_of_fields path fields) rows are fit (all_given path fields) (file_holds objects path fields rows distinct held)

single_column : (values : List PlainValue) → values_at 0 (rows_of_one values) ≡ values
single_column [] = refl
single_column (v ∷ values) = ap (λ (l : List PlainValue). v ∷ l) (single_column values)

-- and a file of one new field adds its values to a fragment
pub column_written : (objects : List Object) (path : List ℕ) (fields : List (PlainField ℕ)) (f : Fragment) (g : PlainField ℕ) (values : List PlainValue) → AllPairs (λ x y. x ≢ y) (ids_in (all_listings (fields_from (g ∷ [])) 0)) → length values ≡ f.rows → AllFit g (values_from values)
    → IsHeld objects (data_name path) (λ bytes. IsFileOfRows (g ∷ []) bytes (rows_of_one values)) → NoneGiven f.files g → ((top : ℕ) (h : PlainField ℕ) → slice_get fields top ≡ Some h → GivesNone (file_of_fields path (g ∷ [])) h)
    → AddsFile objects fields f g (file_of_fields path (g ∷ [])) values
column_written objects path fields f g values distinct long fit held is_new only_new =
    let holds = file_holds objects path (g ∷ []) (rows_of_one values) distinct held in
    let count : length (rows_of_one values) ≡ f.rows = length-map values (λ v. v ∷ []) ∙ long in
    record {
      long = long;
      fit = fit;
      is_file = subst (λ (n : ℕ). IsHeld objects (data_name path) (λ bytes. IsDataFile bytes n)) count holds.is_file;
      given = λ k d below column by.
          subst (λ (vs : List PlainValue). IsHeld objects (data_name path) (λ bytes. HoldsColumn bytes column (get_or (leaves_of g 0 []) k d) vs)) (single_column values) (holds.columns 0 g refl k d below column by);
      all_given = All-head (AllGiven (file_of_fields path (g ∷ []) ∷ [])) g [] (all_given path (g ∷ []));
      is_new = is_new;
      only_new = only_new;
    }
