-- Fields with few leaves, none of them deep, are few.
use Rattle.std.proofs.Common.{◌≡◌, refl, sym, ap, ap₂, ◌∙◌, ℕ, zero, suc, ◌+◌, ◌^◌, ◌<◌, ◌≤◌, Bool, true, false, length, arith}
use Rattle.std.specs.Prelude.{◌&&◌}
use Rattle.std.proofs.lemmas.Bool.{false≢true}
use Rattle.lan_model.specs.Plain.{PlainType, primitive, vector, text, bytes, list, struct, PlainField, field, PlainFields, no_fields, one_field, unnumbered, type_unnumbered, all_unnumbered}
use Rattle.lan_model.specs.Table.{names_of, IsField, AreFields, depths_of, all_depths}
use Rattle.lan_form.specs.Limits.{are_shallow, leaves_in, all_leaves}
use Rattle.lan_form.specs.Numbers.{fields_in, inside, all_in}
use Rattle.lan_form.proofs.Depths.{shallow_append, deep_field}

-- so many times as much
abbrev times : ℕ → ℕ → ℕ
times zero n = 0
times (suc k) n = n + times k n

times_none : (k : ℕ) → times k 0 ≡ 0
times_none zero = refl
times_none (suc k) = omega (arith, times_none k)

times_sum : (k m n : ℕ) → times k (m + n) ≡ times k m + times k n
times_sum zero m n = refl
times_sum (suc k) m n = omega (arith, times_sum k m n)

one_more : (k a n : ℕ) → a ≤ times k n → 1 ≤ a → a + 1 ≤ n + times k n
one_more k a zero most some = absurd (omega (arith, times_none k, most, some))
one_more k a (suc n) most some = omega (arith, most)

some_in : {I : Type 0} (f : PlainField I) → 1 ≤ fields_in f
some_in (field id name nullable ty) = omega arith

some_all : {I : Type 0} (fs : PlainFields I) → 0 < length (names_of fs) → 1 ≤ all_in fs
some_all no_fields some = absurd (omega (arith, some))
some_all (one_field f fs) some = omega (arith, some_in f)

pub and_both : (a b : Bool) → (a && b) ≡ true → (a ≡ true) × (b ≡ true)
and_both true b is = (refl, is)
and_both false b is = absurd (false≢true is)

mutual
  few_in : {I : Type 0} (f : PlainField I) (outer k : ℕ) → outer + k ≡ 16 → IsField f → are_shallow (depths_of f outer) ≡ true → fields_in f ≤ times k (leaves_in f)
  few_in f outer zero sum is shallow = absurd (false≢true (sym (deep_field f outer (omega (arith, sum)) is) ∙ shallow))
  few_in (field id name nullable (primitive p)) outer (suc k) sum is shallow = omega arith
  few_in (field id name nullable (vector p n)) outer (suc k) sum is shallow = omega arith
  few_in (field id name nullable text) outer (suc k) sum is shallow = omega arith
  few_in (field id name nullable bytes) outer (suc k) sum is shallow = omega arith
  few_in (field id name nullable (list item)) outer (suc k) sum is shallow = one_more k (fields_in item) (leaves_in item) (few_in item (outer + 1) k (omega (arith, sum)) is shallow) (some_in item)
  few_in (field id name nullable (struct members)) outer (suc k) sum is shallow =
      one_more k (all_in members) (all_leaves members) (all_few members (outer + 1) k (omega (arith, sum)) is.1 shallow) (some_all members is.0.0)

  pub all_few : {I : Type 0} (fs : PlainFields I) (outer k : ℕ) → outer + k ≡ 16 → AreFields fs → are_shallow (all_depths fs outer) ≡ true → all_in fs ≤ times k (all_leaves fs)
  all_few no_fields outer k sum is shallow = omega arith
  all_few (one_field f fs) outer k sum is shallow =
      let parts = and_both (are_shallow (depths_of f outer)) (are_shallow (all_depths fs outer)) (sym (shallow_append (depths_of f outer) (all_depths fs outer)) ∙ shallow) in
      omega (arith, few_in f outer k sum is.0 parts.0, all_few fs outer k sum is.1 parts.1, times_sum k (leaves_in f) (all_leaves fs))

mutual
  same_in : {I : Type 0} (f : PlainField I) → fields_in (unnumbered f) ≡ fields_in f
  same_in (field id name nullable ty) = ap (λ n. n + 1) (same_inside ty)

  same_inside : {I : Type 0} (t : PlainType I) → inside (type_unnumbered t) ≡ inside t
  same_inside (primitive p) = refl
  same_inside (vector p n) = refl
  same_inside text = refl
  same_inside bytes = refl
  same_inside (list item) = same_in item
  same_inside (struct members) = all_same_in members

  all_same_in : {I : Type 0} (fs : PlainFields I) → all_in (all_unnumbered fs) ≡ all_in fs
  all_same_in no_fields = refl
  all_same_in (one_field f fs) = ap₂ (λ m n. m + n) (same_in f) (all_same_in fs)

pub few_fields : {I : Type 0} (fs : PlainFields I) → AreFields (all_unnumbered fs) → are_shallow (all_depths (all_unnumbered fs) 0) ≡ true → all_leaves (all_unnumbered fs) ≤ 1024 → all_in fs < 2 ^ 31
few_fields fs is shallow few = omega (arith, all_few (all_unnumbered fs) 0 16 refl is shallow, few, all_same_in fs)
