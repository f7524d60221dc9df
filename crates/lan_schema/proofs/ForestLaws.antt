-- Trees that are laid flat are found again.
use Rattle.std.proofs.Common.{◌≡◌, ℕ, Bool, true, false, cond, eqb, List, [], ◌++◌, refl, sym, ap, ◌∙◌, append_assoc, arith, pos, negsuc}
use Rattle.std.specs.Prelude.{ℤ}
use Rattle.std.proofs.lemmas.Bool.{eqb-true}
use Rattle.std.proofs.lemmas.Bool.Decides.{nat_tests}
use Rattle.std.proofs.lemmas.List.{append-nil}
use Rattle.lan_schema.specs.FieldMessage.{Flat}
use Rattle.lan_schema.specs.Forest.{Trees, none, tree, same, forest, laid, Absent, Apart, AreDistinct}

pub nat_same : (n : ℕ) → eqb n n ≡ true
nat_same n = grind (arith, nat_tests)

pub same_self : (z : ℤ) → same z z ≡ true
same_self (pos n) = nat_same n
same_self (negsuc n) = nat_same n

pub not_true : (b : Bool) → (b ≡ true → ⊥) → b ≡ false
not_true true h = absurd (h refl)
not_true false h = refl

pub same_other : (z w : ℤ) → (z ≡ w → ⊥) → same z w ≡ false
same_other (pos m) (pos n) h = not_true (eqb m n) (λ t. h (ap pos (eqb-true m n t)))
same_other (pos m) (negsuc n) h = refl
same_other (negsuc m) (pos n) h = refl
same_other (negsuc m) (negsuc n) h = not_true (eqb m n) (λ t. h (ap negsuc (eqb-true m n t)))

pub same_is : (z w : ℤ) → same z w ≡ true → z ≡ w
same_is (pos m) (pos n) h = ap pos (eqb-true m n h)
same_is (pos m) (negsuc n) h = absurd cc
same_is (negsuc m) (pos n) h = absurd cc
same_is (negsuc m) (negsuc n) h = ap negsuc (eqb-true m n h)

-- fields of other parents are passed over
passed : (q p : ℤ) (ts : Trees) (fs : List Flat) → (p ≡ q → ⊥) → Absent q ts → forest q (laid p ts ++ fs) ≡ forest q fs
passed q p none fs h a = refl
passed q p (tree l inside others) fs h a =
    ap (λ (b : Bool). cond b (tree l (forest l.id ((laid l.id inside ++ laid p others) ++ fs)) (forest q ((laid l.id inside ++ laid p others) ++ fs))) (forest q ((laid l.id inside ++ laid p others) ++ fs))) (same_other p q h)
    ∙ ap (forest q) (append_assoc (laid l.id inside) (laid p others) fs)
    ∙ passed q l.id inside (laid p others ++ fs) a.0 a.1
    ∙ passed q p others fs h a.2

-- none of the trees' fields has a field inside it there
abbrev Barren : Trees → List Flat → Type 0
Barren none fs = Unit {0}
Barren (tree l inside others) fs = (forest l.id fs ≡ none) × Barren inside fs × Barren others fs

barren_past : (ts : Trees) (p : ℤ) (more : Trees) (fs : List Flat) → Absent p ts → Apart ts more → Barren ts fs → Barren ts (laid p more ++ fs)
barren_past none p more fs a d b = tt
barren_past (tree l inside others) p more fs a d b =
    (passed l.id p more fs (λ e. a.0 (sym e)) d.0 ∙ b.0, barren_past inside p more fs a.1 d.1 b.1, barren_past others p more fs a.2 d.2 b.2)

barren_end : (ts : Trees) → Barren ts []
barren_end none = tt
barren_end (tree l inside others) = (refl, barren_end inside, barren_end others)

abbrev joined : Trees → Trees → Trees
joined none more = more
joined (tree l inside others) more = tree l inside (joined others more)

joined_none : (ts : Trees) → joined ts none ≡ ts
joined_none none = refl
joined_none (tree l inside others) = ap (tree l inside) (joined_none others)

found : (p : ℤ) (ts : Trees) (fs : List Flat) → Absent p ts → AreDistinct ts → Barren ts fs → forest p (laid p ts ++ fs) ≡ joined ts (forest p fs)
found p none fs a d b = refl
found p (tree l inside others) fs a d b =
    let rest = (laid l.id inside ++ laid p others) ++ fs in
    let cut : rest ≡ laid l.id inside ++ (laid p others ++ fs) = append_assoc (laid l.id inside) (laid p others) fs in
    let kids : forest l.id rest ≡ inside =
    ap (forest l.id) cut
    ∙ found l.id inside (laid p others ++ fs) d.0 d.3 (barren_past inside p others fs a.1 d.2 b.1)
    ∙ ap (joined inside) (passed l.id p others fs (λ e. a.0 (sym e)) d.1 ∙ b.0)
    ∙ joined_none inside in
    let beside : forest p rest ≡ joined others (forest p fs) =
    ap (forest p) cut
    ∙ passed p l.id inside (laid p others ++ fs) a.0 a.1
    ∙ found p others fs a.2 d.4 b.2 in
    ap (λ (c : Bool). cond c (tree l (forest l.id rest) (forest p rest)) (forest p rest)) (same_self p)
    ∙ ap (λ (t : Trees). tree l t (forest p rest)) kids
    ∙ ap (tree l inside) beside

pub forest_again : (p : ℤ) (ts : Trees) → Absent p ts → AreDistinct ts → forest p (laid p ts) ≡ ts
forest_again p ts a d = ap (forest p) (sym (append-nil (laid p ts))) ∙ found p ts [] a d (barren_end ts) ∙ joined_none ts
