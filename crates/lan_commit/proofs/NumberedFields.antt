-- Fields that are numbered depth first have each a number of its own.
use Rattle.std.proofs.Common.{◌≡◌, sym, ◌∙◌, ap, subst, ℕ, ◌+◌, ◌<◌, ◌≤◌, List, map, arith}
use Rattle.std.specs.Prelude.{ℤ, pos}
use Rattle.lan_model.specs.Plain.{PlainType, primitive, vector, text, bytes as binary, list, struct, PlainField, field, PlainFields, no_fields, one_field, fields_from, unnumbered}
use Rattle.lan_model.specs.Table.{AreColumns}
use Rattle.lan_schema.specs.FieldsOf.{natural}
use Rattle.lan_schema.specs.Forest.{Trees, none, tree, Absent, Apart, AreDistinct}
use Rattle.lan_schema.specs.Renumber.{fields_in, fields_in_all, fields_in_type, numbered, type_numbered, all_numbered}
use Rattle.lan_schema.specs.Written.{CanTell, CanTellAll, CanTellType, tree_before, trees_in, trees_of}
use Rattle.lan_schema.proofs.LawTerms.{columns_same}
use Rattle.lan_schema.proofs.WrittenTrees.{small_signed}
use Rattle.lan_commit.specs.Makes.{CanBeStored}

-- the trees' numbers are from the one to before the other
abbrev Within : ℕ → ℕ → Trees → Type 0
Within low high none = Unit {0}
Within low high (tree l inside others) = ((k : ℕ) × (l.id ≡ pos k) × (low ≤ k) × (k < high)) × Within low high inside × Within low high others

wider : (low high from to : ℕ) (ts : Trees) → from ≤ low → high ≤ to → Within low high ts → Within from to ts
wider low high from to none below above w = tt
wider low high from to (tree l inside others) below above ((k, is, at, past), w, v) = ((k, is, omega (arith, below, at), omega (arith, above, past)), wider low high from to inside below above w, wider low high from to others below above v)

absent : (low high k : ℕ) (z : ℤ) (ts : Trees) → z ≡ pos k → k < low → Within low high ts → Absent z ts
absent low high k z none is below w = tt
absent low high k z (tree l inside others) is below ((m, named, at, past), w, v) =
    (λ same. let one : m ≡ k = ap natural (sym named ∙ same ∙ is) in absurd (omega (arith, one, below, at)), absent low high k z inside is below w, absent low high k z others is below v)

apart : (low middle from high : ℕ) (ts us : Trees) → middle ≤ from → Within low middle ts → Within from high us → Apart ts us
apart low middle from high none us before w v = tt
apart low middle from high (tree l inside others) us before ((k, named, at, past), w, x) v =
    (absent from high k l.id us named (omega (arith, before, past)) v, apart low middle from high inside us before w v, apart low middle from high others us before x v)

mutual
  type_within : {I : Type 0} (ty : PlainType I) (n : ℕ) → CanTellType (type_numbered ty n) → Within n (n + fields_in_type ty) (trees_in (type_numbered ty n))
  type_within (primitive p) n told = tt
  type_within (vector p k) n told = tt
  type_within text n told = tt
  type_within binary n told = tt
  type_within (list item) n told = field_within item n (n + fields_in item) none told (omega arith) tt
  type_within (struct members) n told = all_within members n told

  field_within : {I : Type 0} (f : PlainField I) (n high : ℕ) (others : Trees) → CanTell (numbered f n) → n + fields_in f ≤ high → Within n high others → Within n high (tree_before (numbered f n) others)
  field_within (field id name nullable ty) n high others told room w =
      ((n, small_signed n told.0, omega arith, omega (arith, room)), wider (n + 1) (n + 1 + fields_in_type ty) n high (trees_in (type_numbered ty (n + 1))) (omega arith) (omega (arith, room)) (type_within ty (n + 1) told.2), w)

  all_within : {I : Type 0} (fs : PlainFields I) (n : ℕ) → CanTellAll (all_numbered fs n) → Within n (n + fields_in_all fs) (trees_of (all_numbered fs n))
  all_within no_fields n told = tt
  all_within (one_field f fs) n told =
      field_within f n (n + (fields_in f + fields_in_all fs)) (trees_of (all_numbered fs (n + fields_in f))) told.0 (omega arith)
      (wider (n + fields_in f) (n + fields_in f + fields_in_all fs) n (n + (fields_in f + fields_in_all fs)) (trees_of (all_numbered fs (n + fields_in f))) (omega arith) (omega arith) (all_within fs (n + fields_in f) told.1))

mutual
  type_distinct : {I : Type 0} (ty : PlainType I) (n : ℕ) → CanTellType (type_numbered ty n) → AreDistinct (trees_in (type_numbered ty n))
  type_distinct (primitive p) n told = tt
  type_distinct (vector p k) n told = tt
  type_distinct text n told = tt
  type_distinct binary n told = tt
  type_distinct (list item) n told = field_distinct item n (n + fields_in item) (n + fields_in item) none told (omega arith) tt tt
  type_distinct (struct members) n told = all_distinct members n told

  field_distinct : {I : Type 0} (f : PlainField I) (n middle high : ℕ) (others : Trees) → CanTell (numbered f n) → n + fields_in f ≤ middle → Within middle high others → AreDistinct others → AreDistinct (tree_before (numbered f n) others)
  field_distinct (field id name nullable ty) n middle high others told room w d =
      let inside = trees_in (type_numbered ty (n + 1)) in
      let within = type_within ty (n + 1) told.2 in
      let named = small_signed n told.0 in
      (absent (n + 1) (n + 1 + fields_in_type ty) n _ inside named (omega arith) within, absent middle high n _ others named (omega (arith, room)) w, apart (n + 1) (n + 1 + fields_in_type ty) middle high inside others (omega (arith, room)) within w, type_distinct ty (n + 1) told.2, d)

  pub all_distinct : {I : Type 0} (fs : PlainFields I) (n : ℕ) → CanTellAll (all_numbered fs n) → AreDistinct (trees_of (all_numbered fs n))
  all_distinct no_fields n told = tt
  all_distinct (one_field f fs) n told =
      field_distinct f n (n + fields_in f) (n + fields_in f + fields_in_all fs) (trees_of (all_numbered fs (n + fields_in f))) told.0 (omega arith) (all_within fs (n + fields_in f) told.1) (all_distinct fs (n + fields_in f) told.1)

-- so a table's fields that are numbered so can be stored
pub numbered_stored : {I : Type 0} (fields : List (PlainField ℕ)) (columns : PlainFields I) (first : ℕ) → AreColumns (map unnumbered fields) → CanTellAll (fields_from fields) → fields_from fields ≡ all_numbered columns first → CanBeStored fields
numbered_stored {I} fields columns first table told is = record {
  told = told;
  table = (columns_same fields).0 table;
  apart = subst (λ (fs : PlainFields ℕ). AreDistinct (trees_of fs)) (sym is) (all_distinct columns first (subst CanTellAll is told));
}
