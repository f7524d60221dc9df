-- The depths of leaves, and their count.
use Rattle.std.proofs.Common.{◌≡◌, refl, ap, ◌∙◌, subst, ℕ, ◌+◌, ◌<◌, ◌≤◌, Bool, true, false, List, [], ◌∷◌, ◌++◌, length, map, drop, get_or, arith, length-append}
use Rattle.std.specs.Prelude.{cond, ◌&&◌, nat_le, Ok, Err, Option, Some, None, MatchOption, is_some}
use Rattle.std.proofs.lemmas.Bool.Decides.{nat_tests}
use Rattle.lan_model.specs.declared.tree.Field.{Field}
use Rattle.lan_model.specs.Plain.{primitive, vector, text, bytes, list, struct, PlainField, field, PlainFields, no_fields, one_field, plain_fields, fields_from, all_unnumbered}
use Rattle.lan_model.specs.PlainTable.{column_of}
use Rattle.lan_model.specs.Table.{names_of, IsField, AreFields, depths_of, all_depths}
use Rattle.lan_form.specs.declared.faults.FormFault.TheVariants.{TooDeep, TooManyLeaves}
use Rattle.lan_form.specs.Judged.{Judged}
use Rattle.lan_form.specs.Limits.{are_shallow, leaves_in, all_leaves, within}
use Rattle.lan_form.proofs.Lists.{next_of}

both : (a b c : Bool) → (a && (b && c)) ≡ ((a && b) && c)
both true b c = refl
both false b c = refl

pub shallow_append : (xs ys : List ℕ) → are_shallow (xs ++ ys) ≡ (are_shallow xs && are_shallow ys)
shallow_append [] ys = refl
shallow_append (x ∷ xs) ys = ap (λ b. nat_le x 16 && b) (shallow_append xs ys) ∙ both (nat_le x 16) (are_shallow xs) (are_shallow ys)

too_deep : (outer : ℕ) → 16 ≤ outer → (nat_le (outer + 1) 16 && true) ≡ false
too_deep outer deep = let e : nat_le (outer + 1) 16 ≡ false = grind (arith, nat_tests, deep) in rw e refl

mutual
  -- inside sixteen layers each field is too deep
  pub deep_field : {I : Type 0} (f : PlainField I) (outer : ℕ) → 16 ≤ outer → IsField f → are_shallow (depths_of f outer) ≡ false
  deep_field (field id name nullable (primitive p)) outer deep is = too_deep outer deep
  deep_field (field id name nullable (vector p n)) outer deep is = too_deep outer deep
  deep_field (field id name nullable text) outer deep is = too_deep outer deep
  deep_field (field id name nullable bytes) outer deep is = too_deep outer deep
  deep_field (field id name nullable (list item)) outer deep is = deep_field item (outer + 1) (omega arith) is
  deep_field (field id name nullable (struct members)) outer deep is = deep_fields members (outer + 1) (omega arith) is.0.0 is.1

  deep_fields : {I : Type 0} (fs : PlainFields I) (outer : ℕ) → 16 ≤ outer → 0 < length (names_of fs) → AreFields fs → are_shallow (all_depths fs outer) ≡ false
  deep_fields no_fields outer deep some is = absurd (omega (arith, some))
  deep_fields (one_field f fs) outer deep some is = shallow_append (depths_of f outer) (all_depths fs outer) ∙ rw (deep_field f outer deep is.0) refl

mutual
  pub depths_are : {I : Type 0} (f : PlainField I) (outer : ℕ) → length (depths_of f outer) ≡ leaves_in f
  depths_are (field id name nullable (primitive p)) outer = refl
  depths_are (field id name nullable (vector p n)) outer = refl
  depths_are (field id name nullable text) outer = refl
  depths_are (field id name nullable bytes) outer = refl
  depths_are (field id name nullable (list item)) outer = depths_are item (outer + 1)
  depths_are (field id name nullable (struct members)) outer = all_depths_are members (outer + 1)

  pub all_depths_are : {I : Type 0} (fs : PlainFields I) (outer : ℕ) → length (all_depths fs outer) ≡ all_leaves fs
  all_depths_are no_fields outer = refl
  all_depths_are (one_field f fs) outer = omega (arith, length-append (depths_of f outer) (all_depths fs outer), depths_are f outer, all_depths_are fs outer)

pub columns_are : (fs : List Field) → fields_from (map column_of fs) ≡ all_unnumbered (plain_fields fs)
columns_are [] = refl
columns_are (f ∷ fs) = ap (one_field (column_of f)) (columns_are fs)

pub within_is : (fs : List Field) (shallow few : Bool) → are_shallow (all_depths (all_unnumbered (plain_fields fs)) 0) ≡ shallow → nat_le (all_leaves (all_unnumbered (plain_fields fs))) 1024 ≡ few
    → within (map column_of fs) ≡ cond shallow (cond few (Ok (map column_of fs)) (Err TooManyLeaves)) (Err TooDeep)
within_is fs shallow few is_shallow is_few =
    let judged : PlainFields (Unit {0}) → Judged (List (PlainField (Unit {0}))) = λ all. cond (are_shallow (all_depths all 0)) (cond (nat_le (length (all_depths all 0)) 1024) (Ok (map column_of fs)) (Err TooManyLeaves)) (Err TooDeep) in
    ap judged (columns_are fs) ∙ rw (all_depths_are (all_unnumbered (plain_fields fs)) 0, is_shallow, is_few) refl

pub shallow_next : (fs : List Field) (i : ℕ) (f : Field) (outer : ℕ) → i < length fs → f ≡ get_or fs i f
    → are_shallow (all_depths (all_unnumbered (plain_fields (drop i fs))) outer) ≡ (are_shallow (depths_of (column_of f) outer) && are_shallow (all_depths (all_unnumbered (plain_fields (drop (i + 1) fs))) outer))
shallow_next fs i f outer below is =
    ap (λ l. are_shallow (all_depths (all_unnumbered (plain_fields l)) outer)) (next_of fs i f below is)
    ∙ shallow_append (depths_of (column_of f) outer) (all_depths (all_unnumbered (plain_fields (drop (i + 1) fs))) outer)

pub fields_next : (fs : List Field) (i : ℕ) (f : Field) → i < length fs → f ≡ get_or fs i f → AreFields (all_unnumbered (plain_fields (drop i fs))) → IsField (column_of f) × AreFields (all_unnumbered (plain_fields (drop (i + 1) fs)))
fields_next fs i f below is all = subst (λ l. AreFields (all_unnumbered (plain_fields l))) (next_of fs i f below is) all

pub few_by : (r : Option ℕ) (n : ℕ) → MatchOption r (1024 < n) (λ left. left + n ≡ 1024) → nat_le n 1024 ≡ is_some r
few_by None n given = grind (arith, nat_tests, given)
few_by (Some left) n given = let few : n ≤ 1024 = omega (arith, given) in grind (arith, nat_tests, few)
