-- What is printed is read back.
use Rattle.std.proofs.Common.{◌≡◌, ◌≢◌, inl, inr, refl, sym, ap, ◌∙◌, subst, ℕ, zero, suc, ◌+◌, ◌<◌, ◌≤◌, Bool, true, false, List, [], ◌∷◌, ◌++◌, length, map, arith}
use Rattle.std.specs.Prelude.{cond, ◌&&◌, nat_eq, nat_le, bytes_eq, codes, Some, None, option_map, option_and_then, Ok, Err, All, AllPairs, slice_index_or}
use Rattle.std.specs.List.{list_any}
use Rattle.std.proofs.lemmas.Bool.{cases_Bool, false≢true}
use Rattle.std.proofs.lemmas.Bool.Decides.{nat_tests}
use Rattle.std.proofs.lemmas.List.Elements.{All-head, All-tail}
use Rattle.std.proofs.lemmas.List.Folds.{list_any-append}
use Rattle.std.proofs.lemmas.Slice.Eq.{bytes_eq-Decides}
use Rattle.json.specs.Json as json
use Rattle.json.specs.Tree as tree
use Rattle.serde_json.specs.Data.{Data, array, object, string, boolean, Items, no_items, item, Members, no_members, member}
use Rattle.serde_json.specs.Read.{read, of_json, of_items, of_members}
use Rattle.lan_model.specs.declared.tree.Primitive.TheVariants as p
use Rattle.lan_model.specs.Plain.{PlainType, primitive, vector, text, bytes, list, struct, PlainField, field, PlainFields, no_fields, one_field, fields_from, unnumbered, type_unnumbered, all_unnumbered}
use Rattle.lan_model.specs.Table.{Column, name_of, names_of, AreNamed, IsField, AreFields, AreColumns, depths_of, all_depths, HasNamedItems, HaveNamedItems}
use Rattle.lan_schema.specs.Logical.{leaf_type, IsLeafType}
use Rattle.lan_schema.proofs.LawTerms.{names_leaf}
use Rattle.lan_form.specs.declared.faults.FormFault.TheVariants as fault
use Rattle.lan_form.specs.Judged.{Judged, on_good, and_then, some_or}
use Rattle.lan_form.specs.Names.{first_twice, unless_twice, distinct}
use Rattle.lan_form.specs.Limits.{are_shallow, within}
use Rattle.json.specs.Print.{print}
use Rattle.lan_form.specs.Shape.{Label, label_of}
use Rattle.lan_form.specs.Form.{ColumnType, form, field_from, named, typed, known, field_form, item_form, fields_form, list_form, each_form}
use Rattle.lan_form.specs.Printed.{kind_of, label_members, field_json, fields_json, json_of}
use Rattle.lan_form.specs.Laws.{IsReadBack}
use Rattle.lan_form.proofs.Depths.{shallow_append, deep_field}
use Rattle.lan_form.proofs.Few.{and_both}
use Rattle.lan_form.proofs.Formed.{names_are}
use Rattle.lan_form.proofs.JsonText.{read_tree}

-- ---- the tree of JSON, and how deep it is

mutual
  no_numbers : (f : PlainField ℕ) → tree.HasNumbers (field_json f)
  no_numbers (field id name nullable (primitive q)) = (tt, (tt, (tt, tt)))
  no_numbers (field id name nullable (vector q n)) = (tt, (tt, (tt, tt)))
  no_numbers (field id name nullable text) = (tt, (tt, (tt, tt)))
  no_numbers (field id name nullable bytes) = (tt, (tt, (tt, tt)))
  no_numbers (field id name nullable (list inner)) = (no_numbers inner, (tt, (tt, (tt, tt))))
  no_numbers (field id name nullable (struct members)) = (none_in members, (tt, (tt, (tt, tt))))

  none_in : (fs : PlainFields ℕ) → tree.ItemsHaveNumbers (fields_json fs)
  none_in no_fields = tt
  none_in (one_field f fs) = (no_numbers f, none_in fs)

mutual
  field_depth : (f : PlainField ℕ) (outer k : ℕ) → outer + k ≡ 16 → IsField (unnumbered f) → are_shallow (depths_of (unnumbered f) outer) ≡ true → tree.depth (field_json f) ≤ k + k
  field_depth f outer zero sum is shallow = absurd (false≢true (sym (deep_field (unnumbered f) outer (omega (arith, sum)) is) ∙ shallow))
  field_depth (field id name nullable (primitive q)) outer (suc k) sum is shallow = omega arith
  field_depth (field id name nullable (vector q n)) outer (suc k) sum is shallow = omega arith
  field_depth (field id name nullable text) outer (suc k) sum is shallow = omega arith
  field_depth (field id name nullable bytes) outer (suc k) sum is shallow = omega arith
  field_depth (field id name nullable (list inner)) outer (suc k) sum is shallow = omega (arith, field_depth inner (outer + 1) k (omega (arith, sum)) is shallow)
  field_depth (field id name nullable (struct members)) outer (suc k) sum is shallow = omega (arith, fields_depth members (outer + 1) k (omega (arith, sum)) is.1 shallow)

  fields_depth : (fs : PlainFields ℕ) (outer k : ℕ) → outer + k ≡ 16 → AreFields (all_unnumbered fs) → are_shallow (all_depths (all_unnumbered fs) outer) ≡ true → tree.items_depth (fields_json fs) ≤ k + k
  fields_depth no_fields outer k sum is shallow = omega arith
  fields_depth (one_field f fs) outer k sum is shallow =
      let first = depths_of (unnumbered f) outer in
      let rest = all_depths (all_unnumbered fs) outer in
      let parts = and_both (are_shallow first) (are_shallow rest) (sym (shallow_append first rest) ∙ shallow) in
      omega (arith, field_depth f outer k sum is.0 parts.0, fields_depth fs outer k sum is.1 parts.1)

-- ---- the same as data

abbrev label_data : List ℕ → Bool → PlainType ℕ → Members
label_data name nullable ty = member (codes "name") (string name) (member (codes "nullable") (boolean nullable) (member (codes "type") (string (kind_of ty)) no_members))

abbrev mutual
  field_data : PlainField ℕ → Data
  field_data (field id name nullable ty) = object (inside_data ty (label_data name nullable ty))

  inside_data : PlainType ℕ → Members → Members
  inside_data (list inner) label = member (codes "item") (field_data inner) label
  inside_data (struct members) label = member (codes "fields") (array (fields_data members)) label
  inside_data (primitive q) label = label
  inside_data (vector q n) label = label
  inside_data text label = label
  inside_data bytes label = label

  fields_data : PlainFields ℕ → Items
  fields_data no_fields = no_items
  fields_data (one_field f fs) = item (field_data f) (fields_data fs)

mutual
  field_read : (f : PlainField ℕ) → of_json (field_json f) ≡ Some (field_data f)
  field_read (field id name nullable (primitive q)) = refl
  field_read (field id name nullable (vector q n)) = refl
  field_read (field id name nullable text) = refl
  field_read (field id name nullable bytes) = refl
  field_read (field id name nullable (list inner)) =
      ap (λ d. option_map object (option_and_then (λ e. of_members (label_members name nullable (list inner)) (member (codes "item") e no_members)) d)) (field_read inner)
  field_read (field id name nullable (struct members)) =
      ap (λ d. option_map object (option_and_then (λ e. of_members (label_members name nullable (struct members)) (member (codes "fields") e no_members)) (option_map array d))) (fields_read members)

  fields_read : (fs : PlainFields ℕ) → of_items (fields_json fs) ≡ Some (fields_data fs)
  fields_read no_fields = refl
  fields_read (one_field f fs) =
      ap (option_and_then (λ d. option_map (item d) (of_items (fields_json fs)))) (field_read f) ∙ ap (option_map (item (field_data f))) (fields_read fs)

-- ---- names

other_bytes : (m n : List ℕ) → n ≢ m → bytes_eq m n ≡ false
other_bytes m n other = elim (cases_Bool (bytes_eq m n)) [ inl same ↦ absurd (other (sym ((bytes_eq-Decides m n).0 same))) | inr differs ↦ differs ]

slot_apart : (m n : List ℕ) (earlier : List (List ℕ)) → list_any (bytes_eq m) earlier ≡ false → n ≢ m → list_any (bytes_eq m) (earlier ++ n ∷ []) ≡ false
slot_apart m n earlier new other = list_any-append (bytes_eq m) earlier (n ∷ []) ∙ rw (new, other_bytes m n other) refl

fresh : (earlier names : List (List ℕ)) → AllPairs (λ a b. a ≢ b) names → All (λ name. list_any (bytes_eq name) earlier ≡ false) names → first_twice earlier names ≡ None
fresh earlier [] apart new = refl
fresh earlier (n ∷ ns) apart new =
    let here : list_any (bytes_eq n) earlier ≡ false = All-head (λ m. list_any (bytes_eq m) earlier ≡ false) n ns new in
    let later = All-tail (λ m. list_any (bytes_eq m) earlier ≡ false) n ns new in
    let rest : AllPairs (λ a b. a ≢ b) ns = λ i j d low high. apart (suc i) (suc j) d (omega (arith, low)) (omega (arith, high)) in
    let other : All (λ m. n ≢ m) ns = λ k d below. apart 0 (suc k) d (omega arith) (omega (arith, below)) in
    let both : All (λ m. list_any (bytes_eq m) (earlier ++ n ∷ []) ≡ false) ns = λ k d below. slot_apart (slice_index_or ns k d) n earlier (later k d below) (other k d below) in
    ap (λ b. cond b (Some n) (first_twice (earlier ++ n ∷ []) ns)) here ∙ fresh (earlier ++ n ∷ []) ns rest both

distinct_fields : (cs : List Column) → AreNamed (fields_from cs) → distinct cs ≡ Ok cs
distinct_fields cs named = ap (unless_twice cs) (fresh [] (map name_of cs) (subst (λ l. AllPairs (λ a b. a ≢ b) l) (names_are cs) named.2) (λ k d below. refl))

-- ---- leaves

record IsLeafKind (t : PlainType ℕ) : Type 0 where
  no_list : bytes_eq (kind_of t) (codes "list") ≡ false
  no_struct : bytes_eq (kind_of t) (codes "struct") ≡ false
  known : leaf_type (kind_of t) ≡ Some t

leaf_kind : (t : PlainType ℕ) → IsLeafType t → IsLeafKind t
leaf_kind (primitive p.Bool) is = record { no_list = refl; no_struct = refl; known = refl }
leaf_kind (primitive p.Int8) is = record { no_list = refl; no_struct = refl; known = refl }
leaf_kind (primitive p.Int16) is = record { no_list = refl; no_struct = refl; known = refl }
leaf_kind (primitive p.Int32) is = record { no_list = refl; no_struct = refl; known = refl }
leaf_kind (primitive p.Int64) is = record { no_list = refl; no_struct = refl; known = refl }
leaf_kind (primitive p.Uint8) is = record { no_list = refl; no_struct = refl; known = refl }
leaf_kind (primitive p.Uint16) is = record { no_list = refl; no_struct = refl; known = refl }
leaf_kind (primitive p.Uint32) is = record { no_list = refl; no_struct = refl; known = refl }
leaf_kind (primitive p.Uint64) is = record { no_list = refl; no_struct = refl; known = refl }
leaf_kind (primitive p.Half) is = record { no_list = refl; no_struct = refl; known = refl }
leaf_kind (primitive p.Float) is = record { no_list = refl; no_struct = refl; known = refl }
leaf_kind (primitive p.Double) is = record { no_list = refl; no_struct = refl; known = refl }
leaf_kind (primitive p.Date) is = record { no_list = refl; no_struct = refl; known = refl }
leaf_kind (vector q n) is = record { no_list = refl; no_struct = refl; known = names_leaf (vector q n) is }
leaf_kind text is = record { no_list = refl; no_struct = refl; known = refl }
leaf_kind bytes is = record { no_list = refl; no_struct = refl; known = refl }
leaf_kind (list inner) is = absurd is
leaf_kind (struct members) is = absurd is

-- ---- fields

-- the fields of a struct as a list
abbrev columns_in : PlainFields ℕ → List Column
columns_in no_fields = []
columns_in (one_field f fs) = unnumbered f ∷ columns_in fs

columns_from : (fs : PlainFields ℕ) → fields_from (columns_in fs) ≡ all_unnumbered fs
columns_from no_fields = refl
columns_from (one_field f fs) = ap (one_field (unnumbered f)) (columns_from fs)

has_name : (name : List ℕ) → 0 < length name → nat_eq (length name) 0 ≡ false
has_name name some = grind (arith, nat_tests, some)

shape_by : (a b x y : Bool) → a ≡ false → b ≡ false → cond a x (cond b y true) ≡ true
shape_by a b x y no_list no_struct = rw (no_list, no_struct) refl

leaf_by : (a b : Bool) (inner inside leaf : Judged ColumnType) → a ≡ false → b ≡ false → cond a inner (cond b inside leaf) ≡ leaf
leaf_by a b inner inside leaf no_list no_struct = rw (no_list, no_struct) refl

leaf_formed : (name : List ℕ) (nullable : Bool) (t : PlainType ℕ) → IsLeafType t → 0 < length name → field_form (object (label_data name nullable t)) ≡ Ok (field tt name nullable (type_unnumbered t))
leaf_formed name nullable t is some =
    let leaf = leaf_kind t is in
    let ms = label_data name nullable t in
    let label : Label = record { name = name; nullable = nullable; kind = kind_of t } in
    let shape = shape_by (bytes_eq (kind_of t) (codes "list")) (bytes_eq (kind_of t) (codes "struct")) false false leaf.no_list leaf.no_struct in
    let labelled : label_of ms ≡ Ok label = ap (λ b. cond b (Ok label) (Err fault.Form)) shape in
    let is_typed : typed (kind_of t) (item_form ms) (fields_form ms) ≡ Ok (type_unnumbered t) =
    leaf_by (bytes_eq (kind_of t) (codes "list")) (bytes_eq (kind_of t) (codes "struct")) (on_good list (item_form ms)) (on_good (λ fs. struct (fields_from fs)) (fields_form ms)) (known (kind_of t) (leaf_type (kind_of t))) leaf.no_list leaf.no_struct
    ∙ ap (known (kind_of t)) leaf.known in
    ap (λ l. field_from l (item_form ms) (fields_form ms)) labelled ∙ ap (named label) is_typed ∙ ap (λ b. cond b (Err fault.NoName) (Ok (field tt name nullable (type_unnumbered t)))) (has_name name some)

first_name : {I : Type 0} (f : PlainField I) (fs : PlainFields I) → All (λ name. 0 < length name) (names_of (one_field f fs)) → (0 < length (name_of f)) × All (λ name. 0 < length name) (names_of fs)
first_name (field id name nullable ty) fs some = (All-head (λ n. 0 < length n) name (names_of fs) some, All-tail (λ n. 0 < length n) name (names_of fs) some)

name_unnumbered : (f : PlainField ℕ) → name_of (unnumbered f) ≡ name_of f
name_unnumbered (field id name nullable ty) = refl

list_formed : (fs : PlainFields ℕ) → AreNamed (all_unnumbered fs) → each_form (fields_data fs) ≡ Ok (columns_in fs) → list_form (array (fields_data fs)) ≡ Ok (columns_in fs)
list_formed no_fields are each = absurd (omega (arith, are.0))
list_formed (one_field f fs) are each =
    ap (λ r. and_then r distinct) each ∙ distinct_fields (columns_in (one_field f fs)) (subst AreNamed (sym (columns_from (one_field f fs))) are)

mutual
  named_items : (f : PlainField ℕ) → HasNamedItems (unnumbered f) → HasNamedItems f
  named_items (field id name nullable (primitive q)) items = tt
  named_items (field id name nullable (vector q n)) items = tt
  named_items (field id name nullable text) items = tt
  named_items (field id name nullable bytes) items = tt
  named_items (field id name nullable (list inner)) items = (subst (λ n. 0 < length n) (name_unnumbered inner) items.0, named_items inner items.1)
  named_items (field id name nullable (struct members)) items = all_named_items members items

  all_named_items : (fs : PlainFields ℕ) → HaveNamedItems (all_unnumbered fs) → HaveNamedItems fs
  all_named_items no_fields items = tt
  all_named_items (one_field f fs) items = (named_items f items.0, all_named_items fs items.1)

mutual
  field_formed : (f : PlainField ℕ) → IsField (unnumbered f) → 0 < length (name_of f) → HasNamedItems f → field_form (field_data f) ≡ Ok (unnumbered f)
  field_formed (field id name nullable (primitive q)) is some items = leaf_formed name nullable (primitive q) tt some
  field_formed (field id name nullable (vector q n)) is some items = leaf_formed name nullable (vector q n) is some
  field_formed (field id name nullable text) is some items = leaf_formed name nullable text tt some
  field_formed (field id name nullable bytes) is some items = leaf_formed name nullable bytes tt some
  field_formed (field id name nullable (list inner)) is some items = rw (has_name name some) (ap (λ r. on_good (field tt name nullable) (on_good list r)) (field_formed inner is items.0 items.1))
  field_formed (field id name nullable (struct members)) is some items =
      rw (has_name name some)
      (ap (λ r. on_good (field tt name nullable) (on_good (λ fs. struct (fields_from fs)) r)) (list_formed members is.0 (fields_formed members is.1 is.0.1 items))
      ∙ ap (λ fs. Ok (field tt name nullable (struct fs))) (columns_from members))

  fields_formed : (fs : PlainFields ℕ) → AreFields (all_unnumbered fs) → All (λ name. 0 < length name) (names_of (all_unnumbered fs)) → HaveNamedItems fs → each_form (fields_data fs) ≡ Ok (columns_in fs)
  fields_formed no_fields is some items = refl
  fields_formed (one_field f fs) is some items =
      let names = first_name (unnumbered f) (all_unnumbered fs) some in
      ap (λ r. and_then r (λ g. on_good (λ gs. g ∷ gs) (each_form (fields_data fs)))) (field_formed f is.0 (subst (λ n. 0 < length n) (name_unnumbered f) names.0) items.0)
      ∙ ap (on_good (λ gs. unnumbered f ∷ gs)) (fields_formed fs is.1 names.1 items.1)

-- ---- whole texts

columns_in_from : (fields : List (PlainField ℕ)) → columns_in (fields_from fields) ≡ map unnumbered fields
columns_in_from [] = refl
columns_in_from (f ∷ fields) = ap (λ l. unnumbered f ∷ l) (columns_in_from fields)

are_shallow_by : (ds : List ℕ) → All (λ depth. depth ≤ 16) ds → are_shallow ds ≡ true
are_shallow_by [] low = refl
are_shallow_by (d ∷ ds) low =
    let here : nat_le d 16 ≡ true = (let first = All-head (λ depth. depth ≤ 16) d ds low in grind (arith, nat_tests, first)) in
    ap (λ b. b && are_shallow ds) here ∙ are_shallow_by ds (All-tail (λ depth. depth ≤ 16) d ds low)

within_limits : (cs : List Column) → AreColumns cs → within cs ≡ Ok cs
within_limits cs columns =
    let depths = all_depths (fields_from cs) 0 in
    let few : nat_le (length depths) 1024 ≡ true = (let most = columns.leaves in grind (arith, nat_tests, most)) in
    ap (λ b. cond b (cond (nat_le (length depths) 1024) (Ok cs) (Err fault.TooManyLeaves)) (Err fault.TooDeep)) (are_shallow_by depths columns.layers)
    ∙ ap (λ b. cond b (Ok cs) (Err fault.TooManyLeaves)) few

pub read_back : (fields : List (PlainField ℕ)) → IsReadBack fields
unfolding form json_of
read_back fields columns =
    let fs = fields_from fields in
    let cs = map unnumbered fields in
    let same : fields_from cs ≡ all_unnumbered fs = ap fields_from (sym (columns_in_from fields)) ∙ columns_from fs in
    let are = subst AreNamed same columns.named in
    let is = subst AreFields same columns.each in
    let shallow = ap (λ all. are_shallow (all_depths all 0)) (sym same) ∙ are_shallow_by (all_depths (fields_from cs) 0) columns.layers in
    let deep = fields_depth fs 0 16 refl is shallow in
    let read_as : read (print (tree.json_tokens (json.array (fields_json fs)))) ≡ Some (array (fields_data fs)) = read_tree (json.array (fields_json fs)) (none_in fs) (omega (arith, deep)) ∙ ap (option_map array) (fields_read fs) in
    let formed : list_form (array (fields_data fs)) ≡ Ok cs = list_formed fs are (fields_formed fs is are.1 (all_named_items fs (subst HaveNamedItems same columns.items))) ∙ ap (λ l. Ok l) (columns_in_from fields) in
    ap (λ r. and_then (some_or fault.Json r) (λ d. and_then (list_form d) within)) read_as ∙ ap (λ r. and_then r within) formed ∙ within_limits cs columns
