-- Fields are gathered under their parents from the last one on: one field further.
use Rattle.std.proofs.Common.{◌≡◌, ℕ, ◌+◌, ◌<◌, Bool, true, false, cond, List, [], ◌∷◌, length, get_or, refl, sym, ap, subst, ◌∙◌, arith}
use Rattle.std.proofs.lemmas.Bool.{true≢false}
use Rattle.std.specs.Prelude.{ℤ, pos, negsuc, ◌||◌, not, Option, Some, IsSome}
use Rattle.lan_model.specs.Plain.{PlainField, PlainFields, no_fields, one_field}
use Rattle.lan_schema.specs.FieldMessage.{Flat}
use Rattle.lan_schema.specs.FieldsOf.{AreLinked, AreTyped, type_of, with_others, with_members, fields_of}
use Rattle.lan_schema.specs.Forest.{tree, same, label_of, forest}
use Rattle.lan_schema.specs.Listed.{is_listed, children_of, repeats, has_bad_id, is_negative, is_untyped, miscounts, Lacks}
use Rattle.lan_schema.specs.Shapes.{shape_of, takes}
use Rattle.lan_model.specs.Leaves.{count_of}
use Rattle.lan_schema.proofs.ForestLaws.{same_self, same_is, not_true}
use Rattle.lan_schema.proofs.Typing.{count_forest, some_type}
use Rattle.lan_schema.proofs.Walking.{before, after, after_more, after_all, lacks_from, lacks_at}

neither : (a b : Bool) → (a || b) ≡ false → (a ≡ false) × (b ≡ false)
neither true b e = absurd cc
neither false b e = (refl, e)

not_same : (x y : ℤ) → same x y ≡ false → x ≡ y → ⊥
not_same x y apart e = true≢false (sym (same_self y) ∙ ap (λ (z : ℤ). same z y) (sym e) ∙ apart)

-- what stands for each parent whose own field is further in front
pub record Gathers (es : List Flat) (now : ℤ → PlainFields ℕ) : Type 0 where
  pub stands : (q : ℤ) → is_listed es q ≡ false → fields_of (forest q es) ≡ Some (now q)

pub gathers_more : (es : List Flat) (e : Flat) (old left new : ℤ → PlainFields ℕ) (f : PlainField ℕ) → Gathers es old → is_listed es e.id ≡ false
    → ((q : ℤ) → (q ≡ e.id → ⊥) → left q ≡ old q)
    → ((others : PlainFields ℕ) → with_others (label_of e) (old e.id) (Some others) ≡ Some (one_field f others))
    → new e.parent ≡ one_field f (left e.parent) → ((q : ℤ) → (q ≡ e.parent → ⊥) → new q ≡ left q) → Gathers (e ∷ es) new
gathers_more es e old left new f g own taken built put beside = record { stands = at } where
  at : (q : ℤ) → is_listed (e ∷ es) q ≡ false → fields_of (forest q (e ∷ es)) ≡ Some (new q)
  at q absent = by_parent (same e.parent q) refl where
    both : (same e.id q ≡ false) × (is_listed es q ≡ false)
    both = neither (same e.id q) (is_listed es q) absent

    same_left : left q ≡ old q
    same_left = taken q (λ is. not_same e.id q both.0 (sym is))

    by_parent : (b : Bool) → same e.parent q ≡ b → fields_of (cond b (tree (label_of e) (forest e.id es) (forest q es)) (forest q es)) ≡ Some (new q)
    by_parent true is =
        let parent : e.parent ≡ q = same_is e.parent q is in
        let here : new q ≡ one_field f (left q) = subst (λ (z : ℤ). new z ≡ one_field f (left z)) parent put in
        ap (λ (o : Option (PlainFields ℕ)). with_members (label_of e) o (fields_of (forest q es))) (g.stands e.id own)
        ∙ ap (with_others (label_of e) (old e.id)) (g.stands q both.1)
        ∙ built (old q)
        ∙ ap (λ (o : PlainFields ℕ). Some (one_field f o)) (sym same_left)
        ∙ ap (λ (o : PlainFields ℕ). Some o) (sym here)
    by_parent false is =
        g.stands q both.1 ∙ ap (λ (o : PlainFields ℕ). Some o) (sym same_left ∙ sym (beside q (λ p. not_same e.parent q is (sym p))))

-- no field behind one has its number
later_apart : (before after : List Flat) (id : ℤ) → is_listed before id ≡ true → Lacks repeats before after → is_listed after id ≡ false
later_apart before [] id there h = refl
later_apart before (g ∷ after) id there h =
    let apart : same g.id id ≡ false = not_true (same g.id id) (λ is. true≢false (sym there ∙ ap (is_listed before) (sym (same_is g.id id is)) ∙ h.0)) in
    let listed : is_listed (g ∷ before) id ≡ true = ap (λ (b : Bool). b || is_listed before id) apart ∙ there in
    ap (λ (b : Bool). b || is_listed after id) apart ∙ later_apart (g ∷ before) after id listed h.1

pub unlisted_at : (i : ℕ) (es : List Flat) (e : Flat) → i < length es → e ≡ get_or es i e → Lacks repeats [] es → is_listed (after (i + 1) es) e.id ≡ false
unlisted_at i es e lt is h =
    let here : Lacks repeats (before i es) (e ∷ after (i + 1) es) = subst (λ (t : List Flat). Lacks repeats (before i es) t) (after_more i es e lt is) (lacks_from repeats i es h) in
    later_apart (e ∷ before i es) (after (i + 1) es) e.id (ap (λ (b : Bool). b || is_listed (before i es) e.id) (same_self e.id)) here.1

natural_apart : (z : ℤ) → is_negative z ≡ false → same z (negsuc 0) ≡ false
natural_apart (pos n) h = refl
natural_apart (negsuc n) h = absurd (true≢false h)

-- the top isn't listed
pub top_apart : (before after : List Flat) → Lacks has_bad_id before after → is_listed after (negsuc 0) ≡ false
top_apart before [] h = refl
top_apart before (g ∷ after) h = ap (λ (b : Bool). b || is_listed after (negsuc 0)) (natural_apart g.id h.0) ∙ top_apart (g ∷ before) after h.1

pub gathers_none : (es : List Flat) (now : ℤ → PlainFields ℕ) → ((q : ℤ) → now q ≡ no_fields) → Gathers (after (length es) es) now
gathers_none es now empty = subst (λ (t : List Flat). Gathers t now) (sym (after_all (length es) es (omega arith))) (record { stands = λ q _. ap (λ (o : PlainFields ℕ). Some o) (sym (empty q)) })

true_from : (b : Bool) → not b ≡ false → b ≡ true
true_from true e = refl
true_from false e = absurd (true≢false e)

-- the fields that stand for a field's own members make a type
pub typed_at : (i : ℕ) (es : List Flat) (e : Flat) (now : ℤ → PlainFields ℕ) → i < length es → e ≡ get_or es i e → AreLinked es → AreTyped es → Gathers (after (i + 1) es) now → IsSome (type_of e.logical (now e.id))
typed_at i es e now lt is linked right g =
    let stands = g.stands e.id (unlisted_at i es e lt is linked.once) in
    let size : count_of (now e.id) ≡ children_of (after (i + 1) es) e.id = count_forest e.id (after (i + 1) es) (now e.id) stands in
    let takes_all : takes (shape_of e.logical) (children_of (after (i + 1) es) e.id) ≡ true = true_from _ (lacks_at miscounts i es e lt is right.children) in
    some_type (shape_of e.logical) e.logical (now e.id) (ap (takes (shape_of e.logical)) size ∙ takes_all) (lacks_at is_untyped i es e lt is right.types)
