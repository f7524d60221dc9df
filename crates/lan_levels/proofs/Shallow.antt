-- Fields of at most sixteen layers.
use Rattle.std.proofs.Common.{ℕ, ◌+◌, ◌<◌, ◌≤◌, [], length, All, arith}
use Rattle.std.proofs.lemmas.List.Elements.{All-head}
use Rattle.lan_model.specs.Plain.{primitive, vector, text, bytes, list, struct, PlainField, field, PlainFields, no_fields, one_field}
use Rattle.lan_model.specs.Table.{IsField, AreFields, names_of, depths_of, all_depths}
use Rattle.lan_levels.specs.Taken.{IsShallow, AreShallow}
use Rattle.lan_levels.proofs.Leaves.{All-parts}

pub shallow-less : (f : PlainField ℕ) (outer : ℕ) → IsShallow f outer → outer < 16
shallow-less (field id name n (list item)) outer h = h.0
shallow-less (field id name n (struct members)) outer h = h.0
shallow-less (field id name n (primitive p)) outer h = h
shallow-less (field id name n (vector p k)) outer h = h
shallow-less (field id name n text) outer h = h
shallow-less (field id name n bytes) outer h = h

mutual
  -- further out there is room too
  pub shallow-outer : (f : PlainField ℕ) (outer less : ℕ) → less ≤ outer → IsShallow f outer → IsShallow f less
  shallow-outer (field id name n (list item)) outer less le h = (let lt = h.0 in omega arith, shallow-outer item (outer + 1) (less + 1) (omega arith) h.1)
  shallow-outer (field id name n (struct members)) outer less le h = (let lt = h.0 in omega arith, all_shallow-outer members (outer + 1) (less + 1) (omega arith) h.1)
  shallow-outer (field id name n (primitive p)) outer less le h = omega arith
  shallow-outer (field id name n (vector p k)) outer less le h = omega arith
  shallow-outer (field id name n text) outer less le h = omega arith
  shallow-outer (field id name n bytes) outer less le h = omega arith

  pub all_shallow-outer : (fs : PlainFields ℕ) (outer less : ℕ) → less ≤ outer → AreShallow fs outer → AreShallow fs less
  all_shallow-outer no_fields outer less le h = tt
  all_shallow-outer (one_field f fs) outer less le h = (shallow-outer f outer less le h.0, all_shallow-outer fs outer less le h.1)

some_less : (fs : PlainFields ℕ) (outer : ℕ) → 0 < length (names_of fs) → AreShallow fs outer → outer < 16
some_less no_fields outer some h = absurd (omega arith)
some_less (one_field f fs) outer some h = shallow-less f outer h.0

mutual
  pub shallow_from : (f : PlainField ℕ) (outer : ℕ) → IsField f → All (λ depth. depth ≤ 16) (depths_of f outer) → IsShallow f outer
  shallow_from (field id name n (list item)) outer k h =
      let inner = shallow_from item (outer + 1) k h in
      (let lt = shallow-less item (outer + 1) inner in omega arith, inner)
  shallow_from (field id name n (struct members)) outer k h =
      let inner = all_shallow_from members (outer + 1) k.1 h in
      (let lt = some_less members (outer + 1) k.0.0 inner in omega arith, inner)
  shallow_from (field id name n (primitive p)) outer k h = let le : outer + 1 ≤ 16 = All-head (λ depth. depth ≤ 16) (outer + 1) [] h in omega arith
  shallow_from (field id name n (vector p c)) outer k h = let le : outer + 1 ≤ 16 = All-head (λ depth. depth ≤ 16) (outer + 1) [] h in omega arith
  shallow_from (field id name n text) outer k h = let le : outer + 1 ≤ 16 = All-head (λ depth. depth ≤ 16) (outer + 1) [] h in omega arith
  shallow_from (field id name n bytes) outer k h = let le : outer + 1 ≤ 16 = All-head (λ depth. depth ≤ 16) (outer + 1) [] h in omega arith

  pub all_shallow_from : (fs : PlainFields ℕ) (outer : ℕ) → AreFields fs → All (λ depth. depth ≤ 16) (all_depths fs outer) → AreShallow fs outer
  all_shallow_from no_fields outer k h = tt
  all_shallow_from (one_field f fs) outer k h =
      let (front, back) = All-parts (λ depth. depth ≤ 16) (depths_of f outer) (all_depths fs outer) h in
      (shallow_from f outer k.0 front, all_shallow_from fs outer k.1 back)
