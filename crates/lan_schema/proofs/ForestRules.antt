-- Fields that lie flat and obey the rules: their trees have distinct numbers, and each field is sound in its place.
use Rattle.std.proofs.Common.{◌≡◌, ℕ, ◌+◌, ◌≤◌, Bool, true, false, cond, List, [], ◌∷◌, refl, sym, ap, subst, ◌∙◌, arith, negsuc, pos}
use Rattle.std.specs.Prelude.{ℤ, nat_lt, ◌&&◌}
use Rattle.std.specs.Str.{bytes_eq}
use Rattle.std.proofs.lemmas.Bool.{or_parts, or_from, or_left, or_right, and_from, both_ways, not-false, cond-true, cond-false, cond_both}
use Rattle.std.proofs.lemmas.Slice.Eq.{bytes_eq-Decides}
use Rattle.lan_schema.specs.FieldMessage.{Flat}
use Rattle.lan_schema.specs.FieldsOf.{ObeyRules}
use Rattle.lan_schema.specs.Forest.{Label, Trees, none, tree, same, label_of, forest, Absent, Apart, AreDistinct}
use Rattle.lan_schema.specs.Listed.{is_listed, is_named, children_of, layers_of, is_leaf, leaves_in, is_negative, has_bad_id, repeats, is_nameless, has_namesake, is_untyped, miscounts, is_deep, Lacks}
use Rattle.lan_schema.specs.Shapes.{shape_of, takes}
use Rattle.lan_schema.proofs.ForestLaws.{same_self, same_is, same_other, not_true}
use Rattle.lan_schema.proofs.LaidRules.{width, Unlike, IsSound, AreSound}

-- no number stands twice
abbrev Once : List Flat → Type 0
Once [] = Unit {0}
Once (f ∷ fs) = (is_listed fs f.id ≡ false) × Once fs

unlisted_later : (fs before : List Flat) (z : ℤ) → Lacks repeats before fs → is_listed before z ≡ true → is_listed fs z ≡ false
unlisted_later [] before z l h = refl
unlisted_later (f ∷ fs) before z l h =
    or_from (same f.id z) (is_listed fs z)
    (not_true (same f.id z) (λ t. both_ways (is_listed before z) (subst (λ w. is_listed before w ≡ false) (same_is f.id z t) l.0) h))
    (unlisted_later fs (f ∷ before) z l.1 (or_right (same f.id z) (is_listed before z) h))

own_later : (f : Flat) (fs before : List Flat) → Lacks repeats before (f ∷ fs) → is_listed fs f.id ≡ false
own_later f fs before l = unlisted_later fs (f ∷ before) f.id l.1 (or_left (same f.id f.id) (is_listed before f.id) (same_self f.id))

once_from : (fs before : List Flat) → Lacks repeats before fs → Once fs
once_from [] before l = tt
once_from (f ∷ fs) before l = (own_later f fs before l, once_from fs (f ∷ before) l.1)

-- numbers that the test tells apart
told_apart : (z w : ℤ) → same z w ≡ false → z ≡ w → ⊥
told_apart z w h e = both_ways (same z w) h (subst (λ v. same z v ≡ true) e (same_self z))

forest_absent : (z p : ℤ) (fs : List Flat) → is_listed fs z ≡ false → Absent z (forest p fs)
forest_absent z p [] h = tt
forest_absent z p (f ∷ fs) h =
    let parts = or_parts (same f.id z) (is_listed fs z) h in
    cond_both (same f.parent p) (tree (label_of f) (forest f.id fs) (forest p fs)) (forest p fs) (λ t. Absent z t)
    (λ e. (told_apart f.id z parts.0, forest_absent z f.id fs parts.1, forest_absent z p fs parts.1))
    (λ e. forest_absent z p fs parts.1)

apart_tree : (ts : Trees) (l : Label) (inside others : Trees) → Absent l.id ts → Apart ts inside → Apart ts others → Apart ts (tree l inside others)
apart_tree none l inside others a p q = tt
apart_tree (tree m more beside) l inside others a p q =
    ((λ e. a.0 (sym e), p.0, q.0), apart_tree more l inside others a.1 p.1 q.1, apart_tree beside l inside others a.2 p.2 q.2)

-- the trees of two parents have no number in common
forest_apart : (a b : ℤ) (fs : List Flat) → (a ≡ b → ⊥) → is_listed fs a ≡ false → is_listed fs b ≡ false → Once fs → Apart (forest a fs) (forest b fs)
forest_apart a b [] h p q once = tt
forest_apart a b (f ∷ fs) h p q once =
    let of_a = or_parts (same f.id a) (is_listed fs a) p in
    let of_b = or_parts (same f.id b) (is_listed fs b) q in
    let rest : Apart (forest a fs) (forest b fs) = forest_apart a b fs h of_a.1 of_b.1 once.1 in
    cond_both (same f.parent a) (tree (label_of f) (forest f.id fs) (forest a fs)) (forest a fs) (λ t. Apart t (forest b (f ∷ fs)))
    (λ e. subst (λ t. Apart (tree (label_of f) (forest f.id fs) (forest a fs)) t)
    (sym (cond-false (same f.parent b) (tree (label_of f) (forest f.id fs) (forest b fs)) (forest b fs) (same_other f.parent b (λ g. h (sym (same_is f.parent a e) ∙ g)))))
    (forest_absent f.id b fs once.0, forest_apart f.id b fs (told_apart f.id b of_b.0) once.0 of_b.1 once.1, rest))
    (λ e. cond_both (same f.parent b) (tree (label_of f) (forest f.id fs) (forest b fs)) (forest b fs) (λ t. Apart (forest a fs) t)
    (λ g. apart_tree (forest a fs) (label_of f) (forest f.id fs) (forest b fs) (forest_absent f.id a fs once.0) (forest_apart a f.id fs (λ k. told_apart f.id a of_a.0 (sym k)) of_a.1 once.0 once.1) rest)
    (λ g. rest))

forest_distinct : (p : ℤ) (fs : List Flat) → is_listed fs p ≡ false → Once fs → AreDistinct (forest p fs)
forest_distinct p [] h once = tt
forest_distinct p (f ∷ fs) h once =
    let parts = or_parts (same f.id p) (is_listed fs p) h in
    cond_both (same f.parent p) (tree (label_of f) (forest f.id fs) (forest p fs)) (forest p fs) (λ t. AreDistinct t)
    (λ e. (forest_absent f.id f.id fs once.0, forest_absent f.id p fs once.0, forest_apart f.id p fs (told_apart f.id p parts.0) once.0 parts.1 once.1, forest_distinct f.id fs once.0 once.1, forest_distinct p fs parts.1 once.1))
    (λ e. forest_distinct p fs parts.1 once.1)

-- ---- each field in its place

-- the rules but that on parents, of fields behind others
record Obey (before fs : List Flat) : Type 0 where
  ids : Lacks has_bad_id before fs
  once : Lacks repeats before fs
  some : Lacks is_nameless before fs
  apart : Lacks has_namesake before fs
  types : Lacks is_untyped before fs
  children : Lacks miscounts before fs
  layers : Lacks is_deep before fs

later : (f : Flat) (before fs : List Flat) → Obey before (f ∷ fs) → Obey (f ∷ before) fs
later f before fs o = record { ids = o.ids.1; once = o.once.1; some = o.some.1; apart = o.apart.1; types = o.types.1; children = o.children.1; layers = o.layers.1 }

width_forest : (q : ℤ) (fs : List Flat) → width (forest q fs) ≡ children_of fs q
width_forest q [] = refl
width_forest q (f ∷ fs) = one_more (same f.parent q) (width_forest q fs) where
  one_more : (b : Bool) → width (forest q fs) ≡ children_of fs q → width (cond b (tree (label_of f) (forest f.id fs) (forest q fs)) (forest q fs)) ≡ cond b (children_of fs q + 1) (children_of fs q)
  one_more true e = omega (arith, e)
  one_more false e = e

unlike_later : (fs before : List Flat) (p : ℤ) (name : List ℕ) → Lacks has_namesake before fs → is_named before p name ≡ true → Unlike name (forest p fs)
unlike_later [] before p name l h = tt
unlike_later (f ∷ fs) before p name l h =
    let rest : Unlike name (forest p fs) = unlike_later fs (f ∷ before) p name l.1 (or_right (same f.parent p && bytes_eq f.name name) (is_named before p name) h) in
    cond_both (same f.parent p) (tree (label_of f) (forest f.id fs) (forest p fs)) (forest p fs) (λ t. Unlike name t)
    (λ e. (not_true (bytes_eq name f.name) (λ t. both_ways (is_named before f.parent f.name) l.0 (subst (λ n. is_named before f.parent n ≡ true) ((bytes_eq-Decides name f.name).0 t) (subst (λ z. is_named before z name ≡ true) (sym (same_is f.parent p e)) h))), rest))
    (λ e. rest)

forest_sound : (p : ℤ) (fs before : List Flat) → is_listed fs p ≡ false → Obey before fs → AreSound (layers_of before p) (forest p fs)
forest_sound p [] before h o = tt
forest_sound p (f ∷ fs) before h o =
    let parts = or_parts (same f.id p) (is_listed fs p) h in
    let rest : AreSound (layers_of before p) (forest p fs) =
    subst (λ n. AreSound n (forest p fs)) (cond-false (same f.id p) (layers_of before f.parent + 1) (layers_of before p) parts.0) (forest_sound p fs (f ∷ before) parts.1 (later f before fs o)) in
    let within : AreSound (layers_of before f.parent + 1) (forest f.id fs) =
    subst (λ n. AreSound n (forest f.id fs)) (cond-true (same f.id f.id) (layers_of before f.parent + 1) (layers_of before f.id) (same_self f.id)) (forest_sound f.id fs (f ∷ before) (own_later f fs before o.once) (later f before fs o)) in
    cond_both (same f.parent p) (tree (label_of f) (forest f.id fs) (forest p fs)) (forest p fs) (λ t. AreSound (layers_of before p) t)
    (λ e. (here e, subst (λ z. AreSound (layers_of before z + 1) (forest f.id fs)) (same_is f.parent p e) within, rest))
    (λ e. rest) where
      here : same f.parent p ≡ true → IsSound (layers_of before p) (label_of f) (forest f.id fs) (forest p fs)
      here e = record {
        id = o.ids.0;
        name = o.some.0;
        unlike = unlike_later fs (f ∷ before) p f.name o.apart.1 (or_left (same f.parent p && bytes_eq f.name f.name) (is_named before p f.name) (and_from (same f.parent p) (bytes_eq f.name f.name) e ((bytes_eq-Decides f.name f.name).1 refl)));
        typed = o.types.0;
        count = ap (takes (shape_of f.logical)) (width_forest f.id fs) ∙ not-false (takes (shape_of f.logical) (children_of fs f.id)) o.children.0;
        shallow = subst (λ z. (takes (shape_of f.logical) 0 && nat_lt 16 (layers_of before z + 1)) ≡ false) (same_is f.parent p e) o.layers.0;
      }

-- ---- leaves

abbrev pub leaf_at : List ℕ → ℕ
leaf_at logical = cond (takes (shape_of logical) 0) 1 0

abbrev pub leaves_within : Trees → ℕ
leaves_within none = 0
leaves_within (tree l inside others) = leaf_at l.logical + (leaves_within inside + leaves_within others)

-- the leaves of several parents
abbrev total : List ℤ → List Flat → ℕ
total [] fs = 0
total (p ∷ ps) fs = leaves_within (forest p fs) + total ps fs

abbrev Out : ℤ → List ℤ → Type 0
Out z [] = Unit {0}
Out z (p ∷ ps) = (z ≡ p → ⊥) × Out z ps

abbrev Differ : List ℤ → Type 0
Differ [] = Unit {0}
Differ (p ∷ ps) = Out p ps × Differ ps

abbrev AreOutside : List Flat → List ℤ → Type 0
AreOutside fs [] = Unit {0}
AreOutside fs (p ∷ ps) = (is_listed fs p ≡ false) × AreOutside fs ps

total_end : (ps : List ℤ) → total ps [] ≡ 0
total_end [] = refl
total_end (p ∷ ps) = omega (arith, total_end ps)

total_past : (ps : List ℤ) (f : Flat) (fs : List Flat) → Out f.parent ps → total ps (f ∷ fs) ≡ total ps fs
total_past [] f fs h = refl
total_past (p ∷ ps) f fs h =
    let first : leaves_within (forest p (f ∷ fs)) ≡ leaves_within (forest p fs) =
    ap leaves_within (cond-false (same f.parent p) (tree (label_of f) (forest f.id fs) (forest p fs)) (forest p fs) (same_other f.parent p h.0)) in
    omega (arith, first, total_past ps f fs h.1)

total_step : (ps : List ℤ) (f : Flat) (fs : List Flat) → Differ ps → total ps (f ∷ fs) ≤ leaf_at f.logical + total (f.id ∷ ps) fs
total_step [] f fs d = omega arith
total_step (p ∷ ps) f fs d =
    cond_both (same f.parent p) (tree (label_of f) (forest f.id fs) (forest p fs)) (forest p fs) (λ t. leaves_within t + total ps (f ∷ fs) ≤ leaf_at f.logical + (leaves_within (forest f.id fs) + (leaves_within (forest p fs) + total ps fs)))
    (λ e. omega (arith, total_past ps f fs (subst (λ z. Out z ps) (sym (same_is f.parent p e)) d.0)))
    (λ e. omega (arith, total_step ps f fs d.1))

out_of : (ps : List ℤ) (f : Flat) (fs : List Flat) → AreOutside (f ∷ fs) ps → Out f.id ps × AreOutside fs ps
out_of [] f fs h = (tt, tt)
out_of (p ∷ ps) f fs h =
    let parts = or_parts (same f.id p) (is_listed fs p) h.0 in
    let more = out_of ps f fs h.1 in
    ((told_apart f.id p parts.0, more.0), (parts.1, more.1))

leaf_more : (b : Bool) (n : ℕ) → cond b 1 0 + n ≡ cond b (n + 1) n
leaf_more true n = omega arith
leaf_more false n = omega arith

total_few : (fs : List Flat) (ps : List ℤ) → Differ ps → AreOutside fs ps → Once fs → total ps fs ≤ leaves_in fs
total_few [] ps d h once = omega (arith, total_end ps)
total_few (f ∷ fs) ps d h once =
    let out = out_of ps f fs h in
    omega (arith, total_step ps f fs d, total_few fs (f.id ∷ ps) (out.0, d) (once.0, out.1) once.1, leaf_more (is_leaf f) (leaves_in fs))

-- ---- the whole

-- trees of distinct numbers, each field sound in its place, and not too many leaves
pub record AreSoundTrees (ts : Trees) : Type 0 where
  pub distinct : AreDistinct ts
  pub sound : AreSound 0 ts
  pub leaves : leaves_within ts ≤ 1024

unlike_top : (z : ℤ) → is_negative z ≡ false → same z (negsuc 0) ≡ false
unlike_top (pos n) h = refl
unlike_top (negsuc n) h = absurd (cc h)

top_unlisted : (fs before : List Flat) → Lacks has_bad_id before fs → is_listed fs (negsuc 0) ≡ false
top_unlisted [] before l = refl
top_unlisted (f ∷ fs) before l = or_from (same f.id (negsuc 0)) (is_listed fs (negsuc 0)) (unlike_top f.id l.0) (top_unlisted fs (f ∷ before) l.1)

pub forest_rules : (fs : List Flat) → ObeyRules fs → AreSoundTrees (forest (negsuc 0) fs)
forest_rules fs r =
    let top = top_unlisted fs [] r.linked.ids in
    let once = once_from fs [] r.linked.once in
    record {
      distinct = forest_distinct (negsuc 0) fs top once;
      sound = forest_sound (negsuc 0) fs [] top (record { ids = r.linked.ids; once = r.linked.once; some = r.named.some; apart = r.named.apart; types = r.typed.types; children = r.typed.children; layers = r.layers });
      leaves = omega (arith, total_few fs (negsuc 0 ∷ []) (tt, tt) (top, tt) once, r.leaves);
    }
