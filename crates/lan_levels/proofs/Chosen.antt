-- Chosen leaves: with each the first of the field is chosen.
use Rattle.std.proofs.Common.{◌≡◌, ℕ, zero, suc, ◌+◌, ◌<◌, ◌≤◌, ◌⊎◌, inl, inr, Bool, true, false, refl, ap, ◌∙◌, arith}
use Rattle.lan_model.specs.Plain.{primitive, vector, text, bytes, list, struct, PlainField, field, PlainFields, no_fields, one_field}
use Rattle.lan_levels.specs.EachLeaf.{leaf_count, leaf_count_of, IsClosed, AreClosed}

pub less_or_not : (i end : ℕ) → (i < end) ⊎ (end ≤ i)
less_or_not i zero = inr (omega arith)
less_or_not zero (suc end) = inl (omega arith)
less_or_not (suc i) (suc end) = elim (less_or_not i end) [ inl h ↦ inl (omega arith) | inr h ↦ inr (omega arith) ]

pub true_or_not : (b : Bool) → (b ≡ true) ⊎ (b ≡ false)
true_or_not true = inl refl
true_or_not false = inr refl

only_one : (i j : ℕ) (chosen : ℕ → Bool) → i ≤ j → j < i + 1 → chosen j ≡ true → chosen i ≡ true
only_one i j chosen a b e = let same : i ≡ j = omega arith in ap chosen same ∙ e

mutual
  pub closed_first : (f : PlainField ℕ) (i j : ℕ) (chosen : ℕ → Bool) → IsClosed f i chosen → i ≤ j → j < i + leaf_count f → chosen j ≡ true → chosen i ≡ true
  closed_first (field id name n (list item)) i j chosen c a b e = closed_first item i j chosen c a b e
  closed_first (field id name n (struct members)) i j chosen c a b e = closed_head members i i j chosen c a b e
  closed_first (field id name n (primitive p)) i j chosen c a b e = only_one i j chosen a b e
  closed_first (field id name n (vector p k)) i j chosen c a b e = only_one i j chosen a b e
  closed_first (field id name n text) i j chosen c a b e = only_one i j chosen a b e
  closed_first (field id name n bytes) i j chosen c a b e = only_one i j chosen a b e

  pub closed_head : (fs : PlainFields ℕ) (first i j : ℕ) (chosen : ℕ → Bool) → AreClosed fs first i chosen → i ≤ j → j < i + leaf_count_of fs → chosen j ≡ true → chosen first ≡ true
  closed_head no_fields first i j chosen c a b e = absurd (omega arith)
  closed_head (one_field f fs) first i j chosen c a b e = elim (less_or_not j (i + leaf_count f)) [
    | inl lt ↦ c.0 (closed_first f i j chosen c.1 a lt e)
    | inr ge ↦ closed_head fs first (i + leaf_count f) j chosen c.2 ge (omega arith) e
  ]

mutual
  -- all leaves are chosen
  pub all_closed : (f : PlainField ℕ) (i : ℕ) → IsClosed f i (λ j. true)
  all_closed (field id name n (list item)) i = all_closed item i
  all_closed (field id name n (struct members)) i = members_closed members i i
  all_closed (field id name n (primitive p)) i = tt
  all_closed (field id name n (vector p k)) i = tt
  all_closed (field id name n text) i = tt
  all_closed (field id name n bytes) i = tt

  members_closed : (fs : PlainFields ℕ) (first i : ℕ) → AreClosed fs first i (λ j. true)
  members_closed no_fields first i = tt
  members_closed (one_field f fs) first i = (λ e. refl, all_closed f i, members_closed fs first (i + leaf_count f))
