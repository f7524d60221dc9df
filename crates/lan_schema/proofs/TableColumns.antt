-- What a table's fields may be doesn't turn on their numbers.
use Rattle.std.proofs.Common.{◌≡◌, ℕ, ◌+◌, ◌<◌, ◌≤◌, List, [], ◌∷◌, length, map, refl, sym, ap, subst}
use Rattle.std.specs.Prelude.{◌↔◌, ◌≢◌, All, AllPairs}
use Rattle.lan_model.specs.Plain.{primitive, vector, text, bytes, list, struct, PlainField, field, PlainFields, no_fields, one_field, fields_from, unnumbered, all_unnumbered}
use Rattle.lan_model.specs.Table.{name_of, names_of, IsField, AreFields, HasNamedItems, HaveNamedItems, depths_of, all_depths, AreColumns}
use Rattle.lan_schema.specs.Written.{AreTableFields}

name_same : {I : Type 0} (f : PlainField I) → name_of (unnumbered f) ≡ name_of f
name_same (field id name nullable ty) = refl

names_same : {I : Type 0} (fs : PlainFields I) → names_of (all_unnumbered fs) ≡ names_of fs
names_same no_fields = refl
names_same (one_field (field id name nullable ty) fs) = ap (λ (names : List (List ℕ)). name ∷ names) (names_same fs)

mutual
  is_same : {I : Type 0} (f : PlainField I) → IsField (unnumbered f) ≡ IsField f
  is_same (field id name nullable (primitive q)) = refl
  is_same (field id name nullable (vector q n)) = refl
  is_same (field id name nullable text) = refl
  is_same (field id name nullable bytes) = refl
  is_same (field id name nullable (list item)) = is_same item
  is_same (field id name nullable (struct members)) = rw (names_same members, are_same members)

  are_same : {I : Type 0} (fs : PlainFields I) → AreFields (all_unnumbered fs) ≡ AreFields fs
  are_same no_fields = refl
  are_same (one_field f fs) = rw (is_same f, are_same fs)

mutual
  items_same : {I : Type 0} (f : PlainField I) → HasNamedItems (unnumbered f) ≡ HasNamedItems f
  items_same (field id name nullable (primitive q)) = refl
  items_same (field id name nullable (vector q n)) = refl
  items_same (field id name nullable text) = refl
  items_same (field id name nullable bytes) = refl
  items_same (field id name nullable (list item)) = rw (name_same item, items_same item)
  items_same (field id name nullable (struct members)) = all_items_same members

  all_items_same : {I : Type 0} (fs : PlainFields I) → HaveNamedItems (all_unnumbered fs) ≡ HaveNamedItems fs
  all_items_same no_fields = refl
  all_items_same (one_field f fs) = rw (items_same f, all_items_same fs)

mutual
  depths_same : {I : Type 0} (f : PlainField I) (outer : ℕ) → depths_of (unnumbered f) outer ≡ depths_of f outer
  depths_same (field id name nullable (primitive q)) outer = refl
  depths_same (field id name nullable (vector q n)) outer = refl
  depths_same (field id name nullable text) outer = refl
  depths_same (field id name nullable bytes) outer = refl
  depths_same (field id name nullable (list item)) outer = depths_same item (outer + 1)
  depths_same (field id name nullable (struct members)) outer = all_depths_same members (outer + 1)

  all_depths_same : {I : Type 0} (fs : PlainFields I) (outer : ℕ) → all_depths (all_unnumbered fs) outer ≡ all_depths fs outer
  all_depths_same no_fields outer = refl
  all_depths_same (one_field f fs) outer = rw (depths_same f outer, all_depths_same fs outer)

from_same : {I : Type 0} (fs : List (PlainField I)) → fields_from (map unnumbered fs) ≡ all_unnumbered (fields_from fs)
from_same [] = refl
from_same (f ∷ fs) = ap (one_field (unnumbered f)) (from_same fs)

-- what is asked of names
abbrev AreNames : List (List ℕ) → Type 0
AreNames names = (0 < length names) × All (λ (name : List ℕ). 0 < length name) names × AllPairs (λ (a b : List ℕ). a ≢ b) names

-- what the parts say of fields, said of others with the same parts
moved : {I J : Type 0} (a : PlainFields I) (b : PlainFields J) → names_of a ≡ names_of b → AreFields a ≡ AreFields b → HaveNamedItems a ≡ HaveNamedItems b → all_depths a 0 ≡ all_depths b 0 → AreTableFields a → AreTableFields b
moved a b names each items depths t = record {
  named = subst (λ (names : List (List ℕ)). AreNames names) names t.named;
  each = subst (λ (T : Type 0). T) each t.each;
  items = subst (λ (T : Type 0). T) items t.items;
  leaves = subst (λ (ds : List ℕ). length ds ≤ 1024) depths t.leaves;
  layers = subst (λ (ds : List ℕ). All (λ (depth : ℕ). depth ≤ 16) ds) depths t.layers;
}

pub columns_same : (columns : List (PlainField ℕ)) → AreColumns (map unnumbered columns) ↔ AreTableFields (fields_from columns)
columns_same columns = (to, back) where
  to : AreColumns (map unnumbered columns) → AreTableFields (fields_from columns)
  to c =
      let t : AreTableFields (fields_from (map unnumbered columns)) = record { named = c.named; each = c.each; items = c.items; leaves = c.leaves; layers = c.layers } in
      moved (all_unnumbered (fields_from columns)) (fields_from columns) (names_same (fields_from columns)) (are_same (fields_from columns)) (all_items_same (fields_from columns)) (all_depths_same (fields_from columns) 0) (subst (λ (gs : PlainFields (Unit {0})). AreTableFields gs) (from_same columns) t)

  back : AreTableFields (fields_from columns) → AreColumns (map unnumbered columns)
  back c =
      let t : AreTableFields (fields_from (map unnumbered columns)) =
      subst (λ (gs : PlainFields (Unit {0})). AreTableFields gs) (sym (from_same columns))
      (moved (fields_from columns) (all_unnumbered (fields_from columns)) (sym (names_same (fields_from columns))) (sym (are_same (fields_from columns))) (sym (all_items_same (fields_from columns))) (sym (all_depths_same (fields_from columns) 0)) c) in
      record { named = t.named; each = t.each; items = t.items; leaves = t.leaves; layers = t.layers }
