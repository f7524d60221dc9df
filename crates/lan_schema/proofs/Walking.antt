-- The fields before and behind a place of a list, and a test that goes from place to place.
use Rattle.std.proofs.Common.{◌≡◌, ℕ, zero, suc, ◌+◌, ◌<◌, ◌≤◌, Bool, true, false, List, [], ◌∷◌, ◌++◌, length, take, drop, get_or, refl, sym, ap, subst, ◌∙◌, inl, inr, arith, length-drop}
use Rattle.std.specs.Prelude.{ℤ, IsTrue}
use Rattle.std.proofs.lemmas.List.{take_more, drop_more, drop_all, length-take}
use Rattle.lan_schema.specs.FieldMessage.{Flat}
use Rattle.lan_schema.specs.Listed.{Test, Has, Lacks}

-- the first list before the second, the last one first
abbrev onto : List Flat → List Flat → List Flat
onto [] before = before
onto (f ∷ fs) before = onto fs (f ∷ before)

-- the fields before a place, the last one first
unfoldable pub before : ℕ → List Flat → List Flat
before i es = onto (take i es) []

-- the fields from a place on
unfoldable pub after : ℕ → List Flat → List Flat
after i es = drop i es

onto_push : (fs : List Flat) (f : Flat) (b : List Flat) → onto (fs ++ f ∷ []) b ≡ f ∷ onto fs b
onto_push [] f b = refl
onto_push (g ∷ fs) f b = onto_push fs f (g ∷ b)

pub before_none : (es : List Flat) → before 0 es ≡ []
unfolding before
before_none es = refl

pub after_none : (es : List Flat) → after 0 es ≡ es
unfolding after
after_none es = refl

pub after_all : (i : ℕ) (es : List Flat) → length es ≤ i → after i es ≡ []
unfolding after
after_all i es end = drop_all i es end

pub before_more : (i : ℕ) (es : List Flat) (e : Flat) → i < length es → e ≡ get_or es i e → before (i + 1) es ≡ e ∷ before i es
unfolding before
before_more i es e lt is =
    ap (λ (t : List Flat). onto t []) (take_more es i e lt ∙ ap (λ (x : Flat). take i es ++ x ∷ []) (sym is))
    ∙ onto_push (take i es) e []

pub after_more : (i : ℕ) (es : List Flat) (e : Flat) → i < length es → e ≡ get_or es i e → after i es ≡ e ∷ after (i + 1) es
unfolding after
after_more i es e lt is = drop_more es i e lt ∙ ap (λ (x : Flat). x ∷ drop (i + 1) es) (sym is)

onto_length : (fs b : List Flat) → length (onto fs b) ≡ length fs + length b
onto_length [] b = omega arith
onto_length (f ∷ fs) b = omega (arith, onto_length fs (f ∷ b))

pub before_length : (i : ℕ) (es : List Flat) → length (before i es) ≤ i
unfolding before
before_length i es = omega (arith, onto_length (take i es) [], length-take i es)

pub after_length : (i : ℕ) (es : List Flat) → i < length es → length (after (i + 1) es) + 1 ≤ length es
unfolding after
after_length i es lt = omega (arith, length-drop (i + 1) es)

-- what holds from the front on holds from a place on
pub lacks_from : (test : Test) (i : ℕ) (es : List Flat) → Lacks test [] es → Lacks test (before i es) (after i es)
unfolding before after
lacks_from test i es h = further i es [] h where
  further : (i : ℕ) (es : List Flat) (b : List Flat) → Lacks test b es → Lacks test (onto (take i es) b) (drop i es)
  further zero es b h = h
  further (suc i) [] b h = h
  further (suc i) (x ∷ es) b h = further i es (x ∷ b) h.1

-- what passes from a place on passes from the front on
pub has_from : (test : Test) (id : ℤ) (i : ℕ) (es : List Flat) → Has test id (before i es) (after i es) → Has test id [] es
unfolding before after
has_from test id i es h = further i es [] h where
  further : (i : ℕ) (es : List Flat) (b : List Flat) → Has test id (onto (take i es) b) (drop i es) → Has test id b es
  further zero es b h = h
  further (suc i) [] b h = h
  further (suc i) (x ∷ es) b h = inr (further i es (x ∷ b) h)

-- none passes before a place: if none does from there on, none does from the front on
pub record Passed (test : Test) (i : ℕ) (es : List Flat) : Type 0 where
  pub rest : Lacks test (before i es) (after i es) → Lacks test [] es

pub passed_none : (test : Test) (es : List Flat) → Passed test 0 es
unfolding before after
passed_none test es = record { rest = λ h. h }

pub passed_more : (test : Test) (i : ℕ) (es : List Flat) (e : Flat) → i < length es → e ≡ get_or es i e → test (before i es) e (after (i + 1) es) ≡ false → Passed test i es → Passed test (i + 1) es
passed_more test i es e lt is not p = record {
  rest = λ h. p.rest (subst (λ (t : List Flat). Lacks test (before i es) t) (sym (after_more i es e lt is)) (not, subst (λ (t : List Flat). Lacks test t (after (i + 1) es)) (before_more i es e lt is) h));
}

pub passed_all : (test : Test) (i : ℕ) (es : List Flat) → length es ≤ i → Passed test i es → Lacks test [] es
passed_all test i es end p = p.rest (subst (λ (t : List Flat). Lacks test (before i es) t) (sym (after_all i es end)) tt)

is_true : (b : Bool) → b ≡ true → IsTrue b
is_true b h = subst IsTrue (sym h) refl

-- it passes at a place
pub found_at : (test : Test) (i : ℕ) (es : List Flat) (e : Flat) → i < length es → e ≡ get_or es i e → test (before i es) e (after (i + 1) es) ≡ true → Has test e.id [] es
found_at test i es e lt is passes =
    has_from test e.id i es (subst (λ (t : List Flat). Has test e.id (before i es) t) (sym (after_more i es e lt is)) (inl (refl, is_true _ passes)))

-- none passes from a place on, and not at the place before it
pub lacks_more : (test : Test) (i : ℕ) (es : List Flat) (e : Flat) → i < length es → e ≡ get_or es i e → test (before i es) e (after (i + 1) es) ≡ false → Lacks test (before (i + 1) es) (after (i + 1) es) → Lacks test (before i es) (after i es)
lacks_more test i es e lt is not h =
    subst (λ (t : List Flat). Lacks test (before i es) t) (sym (after_more i es e lt is)) (not, subst (λ (t : List Flat). Lacks test t (after (i + 1) es)) (before_more i es e lt is) h)

-- a test that nothing passes, at a place
pub lacks_at : (test : Test) (i : ℕ) (es : List Flat) (e : Flat) → i < length es → e ≡ get_or es i e → Lacks test [] es → test (before i es) e (after (i + 1) es) ≡ false
lacks_at test i es e lt is h = (subst (λ (t : List Flat). Lacks test (before i es) t) (after_more i es e lt is) (lacks_from test i es h)).0

-- the same of a number that is the field's
pub found_id : (test : Test) (i : ℕ) (es : List Flat) (e : Flat) (id : ℤ) → i < length es → e ≡ get_or es i e → id ≡ e.id → test (before i es) e (after (i + 1) es) ≡ true → Has test id [] es
found_id test i es e id lt is same passes = subst (λ (z : ℤ). Has test z [] es) (sym same) (found_at test i es e lt is passes)

pub lacks_none : (test : Test) (es : List Flat) → Lacks test (before (length es) es) (after (length es) es)
lacks_none test es = subst (λ (t : List Flat). Lacks test (before (length es) es) t) (sym (after_all (length es) es (omega arith))) tt

-- what holds from place 0 on holds from the front on
pub whole_from : (test : Test) (i : ℕ) (es : List Flat) → i ≡ 0 → Lacks test (before i es) (after i es) → Lacks test [] es
unfolding before after
whole_from test i es none h = subst (λ (n : ℕ). Lacks test (onto (take n es) []) (drop n es)) none h
