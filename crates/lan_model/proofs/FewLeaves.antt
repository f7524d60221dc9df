-- Fields with few leaves are few, and so are the fields in each list inside them.
use Rattle.std.proofs.Common.{◌≡◌, refl, ap, subst, ℕ, ◌+◌, ◌^◌, ◌<◌, ◌≤◌, List, [], ◌∷◌, length, map, arith, length-append}
use Rattle.lan_model.specs.Plain.{primitive, vector, text, bytes, list, struct, PlainField, field, PlainFields, no_fields, one_field, fields_from, unnumbered, all_unnumbered}
use Rattle.lan_model.specs.Leaves.{count_of, IsNarrow, AreNarrow}
use Rattle.lan_model.specs.Table.{names_of, IsField, AreFields, depths_of, all_depths, AreColumns}

count_of_names : {I : Type 0} (fs : PlainFields I) → length (names_of fs) ≡ count_of fs
count_of_names no_fields = refl
count_of_names (one_field (field id name nullable ty) fs) = omega (arith, count_of_names fs)

mutual
  -- each field has a leaf, so fields are no more than their leaves
  some_leaf : {I : Type 0} (f : PlainField I) (outer : ℕ) → IsField f → 0 < length (depths_of f outer)
  some_leaf (field id name nullable (primitive p)) outer h = omega arith
  some_leaf (field id name nullable (vector p n)) outer h = omega arith
  some_leaf (field id name nullable text) outer h = omega arith
  some_leaf (field id name nullable bytes) outer h = omega arith
  some_leaf (field id name nullable (list item)) outer h = some_leaf item (outer + 1) h
  some_leaf (field id name nullable (struct members)) outer h = omega (arith, at_most_leaves members (outer + 1) h.1, count_of_names members, h.0.0)

  at_most_leaves : {I : Type 0} (fs : PlainFields I) (outer : ℕ) → AreFields fs → count_of fs ≤ length (all_depths fs outer)
  at_most_leaves no_fields outer h = omega arith
  at_most_leaves (one_field f fs) outer h = omega (arith, some_leaf f outer h.0, at_most_leaves fs outer h.1, length-append (depths_of f outer) (all_depths fs outer))

mutual
  few_inside : {I : Type 0} (f : PlainField I) (outer : ℕ) → IsField f → length (depths_of f outer) < 2 ^ 32 → IsNarrow f
  few_inside (field id name nullable (primitive p)) outer h few = tt
  few_inside (field id name nullable (vector p n)) outer h few = tt
  few_inside (field id name nullable text) outer h few = tt
  few_inside (field id name nullable bytes) outer h few = tt
  few_inside (field id name nullable (list item)) outer h few = few_inside item (outer + 1) h few
  few_inside (field id name nullable (struct members)) outer h few = (omega (arith, at_most_leaves members (outer + 1) h.1, few), few_in_each members (outer + 1) h.1 few)

  few_in_each : {I : Type 0} (fs : PlainFields I) (outer : ℕ) → AreFields fs → length (all_depths fs outer) < 2 ^ 32 → AreNarrow fs
  few_in_each no_fields outer h few = tt
  few_in_each (one_field f fs) outer h few =
      let both = length-append (depths_of f outer) (all_depths fs outer) in
      (few_inside f outer h.0 (omega (arith, both, few)), few_in_each fs outer h.1 (omega (arith, both, few)))

-- numbers are no matter
count_unnumbered : {I : Type 0} (fs : PlainFields I) → count_of (all_unnumbered fs) ≡ count_of fs
count_unnumbered no_fields = refl
count_unnumbered (one_field f fs) = omega (arith, count_unnumbered fs)

mutual
  narrow_numbered : {I : Type 0} (f : PlainField I) → IsNarrow (unnumbered f) → IsNarrow f
  narrow_numbered (field id name nullable (primitive p)) h = tt
  narrow_numbered (field id name nullable (vector p n)) h = tt
  narrow_numbered (field id name nullable text) h = tt
  narrow_numbered (field id name nullable bytes) h = tt
  narrow_numbered (field id name nullable (list item)) h = narrow_numbered item h
  narrow_numbered (field id name nullable (struct members)) h = (omega (arith, h.0, count_unnumbered members), all_narrow_numbered members h.1)

  all_narrow_numbered : {I : Type 0} (fs : PlainFields I) → AreNarrow (all_unnumbered fs) → AreNarrow fs
  all_narrow_numbered no_fields h = tt
  all_narrow_numbered (one_field f fs) h = (narrow_numbered f h.0, all_narrow_numbered fs h.1)

fields_unnumbered : {I : Type 0} (fs : List (PlainField I)) → fields_from (map unnumbered fs) ≡ all_unnumbered (fields_from fs)
fields_unnumbered [] = refl
fields_unnumbered (f ∷ fs) = ap (one_field (unnumbered f)) (fields_unnumbered fs)

pub few_columns : (fs : List (PlainField ℕ)) → AreColumns (map unnumbered fs) → (count_of (fields_from fs) < 2 ^ 32) × AreNarrow (fields_from fs)
few_columns fs columns =
    let same = fields_unnumbered fs in
    let small : length (all_depths (fields_from (map unnumbered fs)) 0) < 2 ^ 32 = omega (arith, columns.leaves) in
    let few = at_most_leaves (fields_from (map unnumbered fs)) 0 columns.each in
    let narrow = few_in_each (fields_from (map unnumbered fs)) 0 columns.each small in
    (omega (arith, few, small, ap count_of same, count_unnumbered (fields_from fs)), all_narrow_numbered (fields_from fs) (subst AreNarrow same narrow))
