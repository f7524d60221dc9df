-- What a walk over fields keeps in a set or a map, one field further.
use Rattle.std.proofs.Common.{◌≡◌, Bor, ℕ, ◌+◌, ◌<◌, ◌≤◌, Bool, true, false, cond, eqb, not, List, [], ◌∷◌, length, get_or, refl, sym, ap, ◌∙◌, arith}
use Rattle.std.specs.Prelude.{ℤ, pos, negsuc, ◌&&◌, ◌||◌, Option, Some, None, unwrap_or}
use Rattle.std.specs.Ordering.{int_cmp, nat_cmp, is_eq, ordering_then}
use Rattle.std.specs.declared.cmp.Ordering.{Ordering}
use Rattle.std.specs.Cmp.Lexicographic.{slice_cmp}
use Rattle.std.specs.Str.{bytes_eq}
use Rattle.std.proofs.lemmas.Bool.Decides.{nat_tests}
use lib.Signed.{lt_z}
use Rattle.lan_schema.specs.FieldMessage.{Flat}
use Rattle.lan_schema.specs.Forest.{same}
use Rattle.lan_schema.specs.Listed.{is_listed, is_named, children_of, layers_of, is_negative}
use Rattle.lan_schema.proofs.ForestLaws.{same_is}
use Rattle.lan_schema.proofs.Keys.{same_key, same_pair}
use Rattle.lan_schema.proofs.Walking.{before, after, before_none, before_more, after_more, after_all}

pub negative_is : (z : ℤ) → lt_z z (pos 0) ≡ is_negative z
negative_is (pos n) = grind (arith, nat_tests)
negative_is (negsuc n) = refl

or_is : (a b : Bool) → cond a true b ≡ (a || b)
or_is true b = refl
or_is false b = refl

pub listed_none : (seen : ℤ → Bool) (es : List Flat) → ((q : ℤ) → seen q ≡ false) → (q : ℤ) → seen q ≡ is_listed (before 0 es) q
listed_none seen es none q = none q ∙ sym (ap (λ (t : List Flat). is_listed t q) (before_none es))

pub listed_more : (old new : ℤ → Bool) (i : ℕ) (es : List Flat) (e : Flat) (id : ℤ) → i < length es → e ≡ get_or es i e → id ≡ e.id
    → ((q : ℤ) → old q ≡ is_listed (before i es) q) → ((q : ℤ) → new q ≡ cond (is_eq (int_cmp id q)) true (old q)) → (q : ℤ) → new q ≡ is_listed (before (i + 1) es) q
listed_more old new i es e id lt is name was now q =
    now q
    ∙ ap (λ (b : Bool). cond b true (old q)) (same_key id q)
    ∙ or_is (same id q) (old q)
    ∙ ap (λ (z : ℤ). same z q || old q) name
    ∙ ap (λ (b : Bool). same e.id q || b) (was q)
    ∙ sym (ap (λ (t : List Flat). is_listed t q) (before_more i es e lt is))

-- a parent's number and a name, as a set has them
abbrev pub Key : Type 0
Key = ℤ × Bor (List ℕ)

abbrev pub key_order : Key → Key → Ordering
key_order x y = ordering_then (int_cmp x.0 y.0) (slice_cmp nat_cmp x.1.now y.1.now)

pub named_none : (seen : Key → Bool) (es : List Flat) → ((q : Key) → seen q ≡ false) → (q : Key) → seen q ≡ is_named (before 0 es) q.0 q.1.now
named_none seen es none q = none q ∙ sym (ap (λ (t : List Flat). is_named t q.0 q.1.now) (before_none es))

pub named_more : (old new : Key → Bool) (i : ℕ) (es : List Flat) (e : Flat) (k : Key) → i < length es → e ≡ get_or es i e → k.0 ≡ e.parent → k.1.now ≡ e.name
    → ((q : Key) → old q ≡ is_named (before i es) q.0 q.1.now) → ((q : Key) → new q ≡ cond (is_eq (ordering_then (int_cmp k.0 q.0) (slice_cmp nat_cmp k.1.now q.1.now))) true (old q)) → (q : Key) → new q ≡ is_named (before (i + 1) es) q.0 q.1.now
named_more old new i es e k lt is parent name was now q =
    now q
    ∙ ap (λ (b : Bool). cond b true (old q)) (same_pair k.0 q.0 k.1.now q.1.now)
    ∙ or_is (same k.0 q.0 && bytes_eq k.1.now q.1.now) (old q)
    ∙ ap (λ (z : ℤ). (same z q.0 && bytes_eq k.1.now q.1.now) || old q) parent
    ∙ ap (λ (n : List ℕ). (same e.parent q.0 && bytes_eq n q.1.now) || old q) name
    ∙ ap (λ (b : Bool). (same e.parent q.0 && bytes_eq e.name q.1.now) || b) (was q)
    ∙ sym (ap (λ (t : List Flat). is_named t q.0 q.1.now) (before_more i es e lt is))

abbrev count : Option ℕ → ℕ
count o = unwrap_or o 0

count_cond : (b : Bool) (n : ℕ) (o : Option ℕ) → count (cond b (Some n) o) ≡ cond b n (count o)
count_cond true n o = refl
count_cond false n o = refl

pub layers_none : (has : ℤ → Option ℕ) (es : List Flat) → ((q : ℤ) → has q ≡ None) → (q : ℤ) → unwrap_or (has q) 0 ≡ layers_of (before 0 es) q
layers_none has es none q = ap count (none q) ∙ sym (ap (λ (t : List Flat). layers_of t q) (before_none es))

pub layers_more : (old new : ℤ → Option ℕ) (i : ℕ) (es : List Flat) (e : Flat) (id : ℤ) (n : ℕ) → i < length es → e ≡ get_or es i e → id ≡ e.id → n ≡ layers_of (before i es) e.parent + 1
    → ((q : ℤ) → unwrap_or (old q) 0 ≡ layers_of (before i es) q) → ((q : ℤ) → new q ≡ cond (is_eq (int_cmp id q)) (Some n) (old q)) → (q : ℤ) → unwrap_or (new q) 0 ≡ layers_of (before (i + 1) es) q
layers_more old new i es e id n lt is name size was now q =
    ap count (now q)
    ∙ count_cond (is_eq (int_cmp id q)) n (old q)
    ∙ ap (λ (b : Bool). cond b n (count (old q))) (same_key id q)
    ∙ ap (λ (z : ℤ). cond (same z q) n (count (old q))) name
    ∙ ap (λ (m : ℕ). cond (same e.id q) m (count (old q))) size
    ∙ ap (λ (m : ℕ). cond (same e.id q) (layers_of (before i es) e.parent + 1) m) (was q)
    ∙ sym (ap (λ (t : List Flat). layers_of t q) (before_more i es e lt is))

cond_le : (b : Bool) (m n k : ℕ) → m ≤ k → n ≤ k → cond b m n ≤ k
cond_le true m n k p q = p
cond_le false m n k p q = q

pub layers_few : (fs : List Flat) (id : ℤ) → layers_of fs id ≤ length fs
layers_few [] id = omega arith
layers_few (f ∷ fs) id = cond_le (same f.id id) (layers_of fs f.parent + 1) (layers_of fs id) (length (f ∷ fs)) (omega (arith, layers_few fs f.parent)) (omega (arith, layers_few fs id))

pub children_few : (fs : List Flat) (id : ℤ) → children_of fs id ≤ length fs
children_few [] id = omega arith
children_few (f ∷ fs) id = cond_le (same f.parent id) (children_of fs id + 1) (children_of fs id) (length (f ∷ fs)) (omega (arith, children_few fs id)) (omega (arith, children_few fs id))

pub children_none : (has : ℤ → Option ℕ) (es : List Flat) (i : ℕ) → length es ≤ i → ((q : ℤ) → has q ≡ None) → (q : ℤ) → unwrap_or (has q) 0 ≡ children_of (after i es) q
children_none has es i end none q = ap count (none q) ∙ sym (ap (λ (t : List Flat). children_of t q) (after_all i es end))

cond_on : (b : Bool) (m n k : ℕ) → (b ≡ true → m ≡ n) → cond b m k ≡ cond b n k
cond_on true m n k h = h refl
cond_on false m n k h = refl

pub children_more : (old new : ℤ → Option ℕ) (i : ℕ) (es : List Flat) (e : Flat) (parent : ℤ) (n : ℕ) → i < length es → e ≡ get_or es i e → parent ≡ e.parent → n ≡ children_of (after (i + 1) es) e.parent + 1
    → ((q : ℤ) → unwrap_or (old q) 0 ≡ children_of (after (i + 1) es) q) → ((q : ℤ) → new q ≡ cond (is_eq (int_cmp parent q)) (Some n) (old q)) → (q : ℤ) → unwrap_or (new q) 0 ≡ children_of (after i es) q
children_more old new i es e parent n lt is name size was now q =
    ap count (now q)
    ∙ count_cond (is_eq (int_cmp parent q)) n (old q)
    ∙ ap (λ (b : Bool). cond b n (count (old q))) (same_key parent q)
    ∙ ap (λ (z : ℤ). cond (same z q) n (count (old q))) name
    ∙ ap (λ (m : ℕ). cond (same e.parent q) m (count (old q))) size
    ∙ ap (λ (m : ℕ). cond (same e.parent q) (children_of (after (i + 1) es) e.parent + 1) m) (was q)
    ∙ at_parent q
    ∙ sym (ap (λ (t : List Flat). children_of t q) (after_more i es e lt is)) where
      at_parent : (q : ℤ) → cond (same e.parent q) (children_of (after (i + 1) es) e.parent + 1) (children_of (after (i + 1) es) q) ≡ cond (same e.parent q) (children_of (after (i + 1) es) q + 1) (children_of (after (i + 1) es) q)
      at_parent q = cond_on (same e.parent q) (children_of (after (i + 1) es) e.parent + 1) (children_of (after (i + 1) es) q + 1) (children_of (after (i + 1) es) q) (λ t. ap (λ (z : ℤ). children_of (after (i + 1) es) z + 1) (same_is e.parent q t))

-- what a key that isn't added, or is, says of the set before
pub was_there : (added there : Bool) → added ≡ not there → added ≡ false → there ≡ true
was_there added true e h = refl
was_there added false e h = sym (sym e ∙ h)

pub was_not : (added there : Bool) → added ≡ not there → added ≡ true → there ≡ false
was_not added true e h = sym (sym e ∙ h)
was_not added false e h = refl

pub empty_is : (name : List ℕ) (r : Bool) → r ≡ eqb (length name) 0 → r ≡ bytes_eq name []
empty_is [] r e = e
empty_is (x ∷ xs) r e = e ∙ grind (arith, nat_tests)
