-- Trees of distinct numbers obey the rules when they are laid flat, if each field does in its place.
use Rattle.std.proofs.Common.{◌≡◌, ℕ, ◌+◌, ◌≤◌, Bool, true, false, cond, List, [], ◌∷◌, ◌++◌, refl, sym, ap, subst, ◌∙◌, append_assoc, arith, inl, inr}
use Rattle.std.specs.Prelude.{ℤ, negsuc, not, nat_lt, ◌&&◌, ◌||◌, is_some}
use Rattle.std.specs.Str.{bytes_eq}
use Rattle.std.proofs.lemmas.Bool.{or_parts, or_from, or_left, or_right, or_cases, and_left, not_from_true, cond-true, cond-false}
use Rattle.std.proofs.lemmas.List.{append-nil}
use Rattle.lan_schema.specs.FieldMessage.{Flat}
use Rattle.lan_schema.specs.FieldsOf.{ObeyRules}
use Rattle.lan_schema.specs.Forest.{Label, Trees, none, tree, same, under, laid, Absent, Apart, AreDistinct}
use Rattle.lan_schema.specs.Listed.{is_listed, is_named, children_of, layers_of, leaves_in, Test, is_negative, has_bad_id, repeats, is_orphan, is_nameless, has_namesake, is_untyped, miscounts, is_deep, Lacks}
use Rattle.lan_schema.specs.Logical.{leaf_type}
use Rattle.lan_schema.specs.Shapes.{shape_of, takes}
use Rattle.lan_schema.proofs.ForestLaws.{same_self, same_other}

-- ---- the numbers of trees

abbrev pub EachId : (ℤ → Type 0) → Trees → Type 0
EachId P none = Unit {0}
EachId P (tree l inside others) = P l.id × EachId P inside × EachId P others

pub each_id : (P : ℤ → Type 0) → ((z : ℤ) → P z) → (ts : Trees) → EachId P ts
each_id P h none = tt
each_id P h (tree l inside others) = (h l.id, each_id P h inside, each_id P h others)

each_and : (P Q R : ℤ → Type 0) → ((z : ℤ) → P z → Q z → R z) → (ts : Trees) → EachId P ts → EachId Q ts → EachId R ts
each_and P Q R h none p q = tt
each_and P Q R h (tree l inside others) p q = (h l.id p.0 q.0, each_and P Q R h inside p.1 q.1, each_and P Q R h others p.2 q.2)

apart_ids : (ts more : Trees) → Apart ts more → EachId (λ z. Absent z more) ts
apart_ids none more d = tt
apart_ids (tree l inside others) more d = (d.0, apart_ids inside more d.1, apart_ids others more d.2)

absent_ids : (z : ℤ) (ts : Trees) → Absent z ts → EachId (λ w. w ≡ z → ⊥) ts
absent_ids z none a = tt
absent_ids z (tree l inside others) a = (a.0, absent_ids z inside a.1, absent_ids z others a.2)

apart_turned : (ts more : Trees) → Apart ts more → EachId (λ z. Absent z ts) more
apart_turned none more d = each_id (λ z. Absent z none) (λ z. tt) more
apart_turned (tree l inside others) more d =
    let both = each_and (λ z. Absent z inside) (λ z. Absent z others) (λ z. Absent z inside × Absent z others) (λ z p q. (p, q)) more (apart_turned inside more d.1) (apart_turned others more d.2) in
    each_and (λ z. z ≡ l.id → ⊥) (λ z. Absent z inside × Absent z others) (λ z. Absent z (tree l inside others)) (λ z p q. (λ e. p (sym e), q.0, q.1)) more (absent_ids l.id more d.0) both

-- ---- what lies before, and after

-- the fields in reverse, before these
abbrev onto : List Flat → List Flat → List Flat
onto [] before = before
onto (f ∷ fs) before = onto fs (f ∷ before)

onto_append : (xs ys before : List Flat) → onto (xs ++ ys) before ≡ onto ys (onto xs before)
onto_append [] ys before = refl
onto_append (x ∷ xs) ys before = onto_append xs ys (x ∷ before)

listed_append : (xs ys : List Flat) (z : ℤ) → is_listed xs z ≡ false → is_listed ys z ≡ false → is_listed (xs ++ ys) z ≡ false
listed_append [] ys z p q = q
listed_append (x ∷ xs) ys z p q =
    let parts = or_parts (same x.id z) (is_listed xs z) p in
    or_from (same x.id z) (is_listed (xs ++ ys) z) parts.0 (listed_append xs ys z parts.1 q)

laid_unlisted : (p z : ℤ) (ts : Trees) → Absent z ts → is_listed (laid p ts) z ≡ false
laid_unlisted p z none a = refl
laid_unlisted p z (tree l inside others) a =
    or_from (same l.id z) (is_listed (laid l.id inside ++ laid p others) z) (same_other l.id z a.0)
    (listed_append (laid l.id inside) (laid p others) z (laid_unlisted l.id z inside a.1) (laid_unlisted p z others a.2))

listed_onto : (xs before : List Flat) (z : ℤ) → is_listed xs z ≡ false → is_listed before z ≡ false → is_listed (onto xs before) z ≡ false
listed_onto [] before z p q = q
listed_onto (x ∷ xs) before z p q =
    let parts = or_parts (same x.id z) (is_listed xs z) p in
    listed_onto xs (x ∷ before) z parts.1 (or_from (same x.id z) (is_listed before z) parts.0 q)

still_listed : (xs before : List Flat) (z : ℤ) → is_listed before z ≡ true → is_listed (onto xs before) z ≡ true
still_listed [] before z h = h
still_listed (x ∷ xs) before z h = still_listed xs (x ∷ before) z (or_right (same x.id z) (is_listed before z) h)

named_append : (xs ys : List Flat) (z : ℤ) (name : List ℕ) → is_named xs z name ≡ false → is_named ys z name ≡ false → is_named (xs ++ ys) z name ≡ false
named_append [] ys z name p q = q
named_append (x ∷ xs) ys z name p q =
    let here = same x.parent z && bytes_eq x.name name in
    let parts = or_parts here (is_named xs z name) p in
    or_from here (is_named (xs ++ ys) z name) parts.0 (named_append xs ys z name parts.1 q)

-- another parent's fields have no field of this one among them
laid_unnamed : (p q : ℤ) (name : List ℕ) (ts : Trees) → (p ≡ q → ⊥) → Absent q ts → is_named (laid p ts) q name ≡ false
laid_unnamed p q name none h a = refl
laid_unnamed p q name (tree l inside others) h a =
    or_from (same p q && bytes_eq l.name name) (is_named (laid l.id inside ++ laid p others) q name) (and_left (same p q) (bytes_eq l.name name) (same_other p q h))
    (named_append (laid l.id inside) (laid p others) q name (laid_unnamed l.id q name inside a.0 a.1) (laid_unnamed p q name others h a.2))

named_onto : (xs before : List Flat) (z : ℤ) (name : List ℕ) → is_named xs z name ≡ false → is_named before z name ≡ false → is_named (onto xs before) z name ≡ false
named_onto [] before z name p q = q
named_onto (x ∷ xs) before z name p q =
    let here = same x.parent z && bytes_eq x.name name in
    let parts = or_parts here (is_named xs z name) p in
    named_onto xs (x ∷ before) z name parts.1 (or_from here (is_named before z name) parts.0 q)

layers_onto : (xs before : List Flat) (z : ℤ) → is_listed xs z ≡ false → layers_of (onto xs before) z ≡ layers_of before z
layers_onto [] before z p = refl
layers_onto (x ∷ xs) before z p =
    let parts = or_parts (same x.id z) (is_listed xs z) p in
    layers_onto xs (x ∷ before) z parts.1 ∙ cond-false (same x.id z) (layers_of before x.parent + 1) (layers_of before z) parts.0

cond_plus : (b : Bool) (m n k : ℕ) → m ≡ n + k → cond b (m + 1) m ≡ cond b (n + 1) n + k
cond_plus true m n k e = omega (arith, e)
cond_plus false m n k e = e

children_append : (xs ys : List Flat) (z : ℤ) → children_of (xs ++ ys) z ≡ children_of xs z + children_of ys z
children_append [] ys z = omega arith
children_append (x ∷ xs) ys z = cond_plus (same x.parent z) (children_of (xs ++ ys) z) (children_of xs z) (children_of ys z) (children_append xs ys z)

laid_childless : (p q : ℤ) (ts : Trees) → (p ≡ q → ⊥) → Absent q ts → children_of (laid p ts) q ≡ 0
laid_childless p q none h a = refl
laid_childless p q (tree l inside others) h a =
    let rest = children_of (laid l.id inside ++ laid p others) q in
    cond-false (same p q) (rest + 1) rest (same_other p q h)
    ∙ omega (arith, children_append (laid l.id inside) (laid p others) q, laid_childless l.id q inside a.0 a.1, laid_childless p q others h a.2)

-- how many trees stand side by side
abbrev pub width : Trees → ℕ
width none = 0
width (tree l inside others) = width others + 1

laid_children : (p : ℤ) (ts : Trees) → Absent p ts → children_of (laid p ts) p ≡ width ts
laid_children p none a = refl
laid_children p (tree l inside others) a =
    let rest = children_of (laid l.id inside ++ laid p others) p in
    cond-true (same p p) (rest + 1) rest (same_self p)
    ∙ omega (arith, children_append (laid l.id inside) (laid p others) p, laid_childless l.id p inside a.0 a.1, laid_children p others a.2)

-- ---- a field in its place

-- none of the trees side by side has this name
abbrev pub Unlike : List ℕ → Trees → Type 0
Unlike name none = Unit {0}
Unlike name (tree l inside others) = (bytes_eq name l.name ≡ false) × Unlike name others

-- what the rules ask of a field inside so many layers, of those inside it and of those beside it
pub record IsSound (outer : ℕ) (l : Label) (inside others : Trees) : Type 0 where
  pub id : is_negative l.id ≡ false
  pub name : bytes_eq l.name [] ≡ false
  pub unlike : Unlike l.name others
  pub typed : (takes (shape_of l.logical) 0 && not (is_some (leaf_type l.logical))) ≡ false
  pub count : takes (shape_of l.logical) (width inside) ≡ true
  pub shallow : (takes (shape_of l.logical) 0 && nat_lt 16 (outer + 1)) ≡ false

abbrev pub AreSound : ℕ → Trees → Type 0
AreSound outer none = Unit {0}
AreSound outer (tree l inside others) = IsSound outer l inside others × AreSound (outer + 1) inside × AreSound outer others

-- those before have neither this number nor this parent, and those after not this parent
record IsFree (before later : List Flat) (z : ℤ) : Type 0 where
  unlisted : is_listed before z ≡ false
  unnamed : (name : List ℕ) → is_named before z name ≡ false
  childless : children_of later z ≡ 0

-- those before have no field of this parent and a name of these
abbrev AreNew : ℤ → List Flat → Trees → Type 0
AreNew p before none = Unit {0}
AreNew p before (tree l inside others) = (is_named before p l.name ≡ false) × AreNew p before others

-- trees that may stand under a parent between these fields
record MayStand (p : ℤ) (ts : Trees) (before later : List Flat) : Type 0 where
  distinct : AreDistinct ts
  absent : Absent p ts
  free : EachId (IsFree before later) ts
  placed : (same p (negsuc 0) || is_listed before p) ≡ true
  names : AreNew p before ts
  sound : AreSound (layers_of before p) ts

all_new : (p : ℤ) (before : List Flat) (ts : Trees) → ((name : List ℕ) → is_named before p name ≡ false) → AreNew p before ts
all_new p before none h = tt
all_new p before (tree l inside others) h = (h l.name, all_new p before others h)

within : (p : ℤ) (l : Label) (inside others : Trees) (before later : List Flat) → MayStand p (tree l inside others) before later → MayStand l.id inside (under p l ∷ before) (laid p others ++ later)
within p l inside others before later s =
    let two = each_and (λ z. z ≡ p → ⊥) (λ z. Absent z others) (λ z. (z ≡ p → ⊥) × Absent z others) (λ z a b. (a, b)) inside (absent_ids p inside s.absent.1) (apart_ids inside others s.distinct.2) in
    let three = each_and (λ z. z ≡ l.id → ⊥) (λ z. (z ≡ p → ⊥) × Absent z others) (λ z. (z ≡ l.id → ⊥) × (z ≡ p → ⊥) × Absent z others) (λ z a b. (a, b.0, b.1)) inside (absent_ids l.id inside s.distinct.0) two in
    record {
      distinct = s.distinct.3;
      absent = s.distinct.0;
      free = each_and (λ z. (z ≡ l.id → ⊥) × (z ≡ p → ⊥) × Absent z others) (IsFree before later) (IsFree (under p l ∷ before) (laid p others ++ later)) (λ z a f. freed z a.0 a.1 a.2 f) inside three s.free.1;
      placed = or_right (same l.id (negsuc 0)) (same l.id l.id || is_listed before l.id) (or_left (same l.id l.id) (is_listed before l.id) (same_self l.id));
      names = all_new l.id (under p l ∷ before) inside (λ name. unnamed_more l.id name (λ e. s.absent.0 (sym e)) (s.free.0.unnamed name));
      sound = subst (λ n. AreSound n inside) (sym (cond-true (same l.id l.id) (layers_of before p + 1) (layers_of before l.id) (same_self l.id))) s.sound.1;
    } where
      unnamed_more : (z : ℤ) (name : List ℕ) → (p ≡ z → ⊥) → is_named before z name ≡ false → is_named (under p l ∷ before) z name ≡ false
      unnamed_more z name h u = or_from (same p z && bytes_eq l.name name) (is_named before z name) (and_left (same p z) (bytes_eq l.name name) (same_other p z h)) u

      freed : (z : ℤ) → (z ≡ l.id → ⊥) → (z ≡ p → ⊥) → Absent z others → IsFree before later z → IsFree (under p l ∷ before) (laid p others ++ later) z
      freed z a b c f = record {
        unlisted = or_from (same l.id z) (is_listed before z) (same_other l.id z (λ e. a (sym e))) f.unlisted;
        unnamed = λ name. unnamed_more z name (λ e. b (sym e)) (f.unnamed name);
        childless = omega (arith, children_append (laid p others) later z, laid_childless p z others (λ e. b (sym e)) c, f.childless);
      }

new_past : (p : ℤ) (l : Label) (inside : Trees) (before : List Flat) (ts : Trees) → (l.id ≡ p → ⊥) → Absent p inside → Unlike l.name ts → AreNew p before ts → AreNew p (onto (laid l.id inside) (under p l ∷ before)) ts
new_past p l inside before none h a u n = tt
new_past p l inside before (tree m more others) h a u n = (
  named_onto (laid l.id inside) (under p l ∷ before) p m.name (laid_unnamed l.id p m.name inside h a)
      (or_from (same p p && bytes_eq l.name m.name) (is_named before p m.name) (both_false (same p p) (bytes_eq l.name m.name) u.0) n.0),
  new_past p l inside before others h a u.1 n.1,
) where
  both_false : (a b : Bool) → b ≡ false → (a && b) ≡ false
  both_false true b e = e
  both_false false b e = refl

beside : (p : ℤ) (l : Label) (inside others : Trees) (before later : List Flat) → MayStand p (tree l inside others) before later → MayStand p others (onto (laid l.id inside) (under p l ∷ before)) later
beside p l inside others before later s =
    let two = each_and (λ z. z ≡ p → ⊥) (λ z. Absent z inside) (λ z. (z ≡ p → ⊥) × Absent z inside) (λ z a b. (a, b)) others (absent_ids p others s.absent.2) (apart_turned inside others s.distinct.2) in
    let three = each_and (λ z. z ≡ l.id → ⊥) (λ z. (z ≡ p → ⊥) × Absent z inside) (λ z. (z ≡ l.id → ⊥) × (z ≡ p → ⊥) × Absent z inside) (λ z a b. (a, b.0, b.1)) others (absent_ids l.id others s.distinct.1) two in
    let past = onto (laid l.id inside) (under p l ∷ before) in
    let deep : layers_of past p ≡ layers_of before p =
    layers_onto (laid l.id inside) (under p l ∷ before) p (laid_unlisted l.id p inside s.absent.1)
    ∙ cond-false (same l.id p) (layers_of before p + 1) (layers_of before p) (same_other l.id p s.absent.0) in
    record {
      distinct = s.distinct.4;
      absent = s.absent.2;
      free = each_and (λ z. (z ≡ l.id → ⊥) × (z ≡ p → ⊥) × Absent z inside) (IsFree before later) (IsFree past later) (λ z a f. freed z a.0 a.1 a.2 f) others three s.free.2;
      placed = elim (or_cases (same p (negsuc 0)) (is_listed before p) s.placed) [
        | inl top ↦ or_left (same p (negsuc 0)) (is_listed past p) top
        | inr there ↦ or_right (same p (negsuc 0)) (is_listed past p) (still_listed (laid l.id inside) (under p l ∷ before) p (or_right (same l.id p) (is_listed before p) there))
      ];
      names = new_past p l inside before others s.absent.0 s.absent.1 s.sound.0.unlike s.names.1;
      sound = subst (λ n. AreSound n others) (sym deep) s.sound.2;
    } where
      freed : (z : ℤ) → (z ≡ l.id → ⊥) → (z ≡ p → ⊥) → Absent z inside → IsFree before later z → IsFree (onto (laid l.id inside) (under p l ∷ before)) later z
      freed z a b c f = record {
        unlisted = listed_onto (laid l.id inside) (under p l ∷ before) z (laid_unlisted l.id z inside c) (or_from (same l.id z) (is_listed before z) (same_other l.id z (λ e. a (sym e))) f.unlisted);
        unnamed = λ name. named_onto (laid l.id inside) (under p l ∷ before) z name (laid_unnamed l.id z name inside (λ e. a (sym e)) c) (or_from (same p z && bytes_eq l.name name) (is_named before z name) (and_left (same p z) (bytes_eq l.name name) (same_other p z (λ e. b (sym e)))) (f.unnamed name));
        childless = f.childless;
      }

-- ---- the walk

-- the first field of trees that may stand here doesn't pass the test
abbrev Spares : Test → Type 0
Spares test = (p : ℤ) (l : Label) (inside others : Trees) (before later : List Flat) → MayStand p (tree l inside others) before later → test before (under p l) (laid l.id inside ++ (laid p others ++ later)) ≡ false

walk : (test : Test) → Spares test → (p : ℤ) (ts : Trees) (before later : List Flat) → MayStand p ts before later → Lacks test (onto (laid p ts) before) later → Lacks test before (laid p ts ++ later)
walk test spared p none before later s k = k
walk test spared p (tree l inside others) before later s k =
    let past = onto (laid l.id inside) (under p l ∷ before) in
    let rest = walk test spared p others past later (beside p l inside others before later s) (subst (λ b. Lacks test b later) (onto_append (laid l.id inside) (laid p others) (under p l ∷ before)) k) in
    let all = walk test spared l.id inside (under p l ∷ before) (laid p others ++ later) (within p l inside others before later s) rest in
    subst (λ after. (test before (under p l) after ≡ false) × Lacks test (under p l ∷ before) after) (sym (append_assoc (laid l.id inside) (laid p others) later))
    (spared p l inside others before later s, all)

counted : Spares miscounts
counted p l inside others before later s =
    let own = children_append (laid l.id inside) (laid p others ++ later) l.id in
    let past = children_append (laid p others) later l.id in
    let total : children_of (laid l.id inside ++ (laid p others ++ later)) l.id ≡ width inside =
    omega (arith, own, past, laid_children l.id inside s.distinct.0, laid_childless p l.id others (λ e. s.absent.0 (sym e)) s.distinct.1, s.free.0.childless) in
    not_from_true (takes (shape_of l.logical) (children_of (laid l.id inside ++ (laid p others ++ later)) l.id)) (ap (takes (shape_of l.logical)) total ∙ s.sound.0.count)

-- distinct and sound trees obey the rules
pub laid_rules : (l : Label) (inside others : Trees) → AreDistinct (tree l inside others) → Absent (negsuc 0) (tree l inside others) → AreSound 0 (tree l inside others) → leaves_in (laid (negsuc 0) (tree l inside others)) ≤ 1024 → ObeyRules (laid (negsuc 0) (tree l inside others))
laid_rules l inside others d a sound few = record {
  some = λ e. absurd (cc e);
  linked = record {
    ids = each has_bad_id (λ p l inside others before later s. s.sound.0.id);
    once = each repeats (λ p l inside others before later s. s.free.0.unlisted);
    parents = each is_orphan (λ p l inside others before later s. not_from_true (same p (negsuc 0) || is_listed before p) s.placed);
  };
  named = record {
    some = each is_nameless (λ p l inside others before later s. s.sound.0.name);
    apart = each has_namesake (λ p l inside others before later s. s.names.0);
  };
  typed = record {
    types = each is_untyped (λ p l inside others before later s. s.sound.0.typed);
    children = each miscounts counted;
  };
  layers = each is_deep (λ p l inside others before later s. s.sound.0.shallow);
  leaves = few;
} where
  start : MayStand (negsuc 0) (tree l inside others) [] []
  start = record {
    distinct = d;
    absent = a;
    free = each_id (IsFree [] []) (λ z. record { unlisted = refl; unnamed = λ name. refl; childless = refl }) (tree l inside others);
    placed = refl;
    names = all_new (negsuc 0) [] (tree l inside others) (λ name. refl);
    sound = sound;
  }

  each : (test : Test) → Spares test → Lacks test [] (laid (negsuc 0) (tree l inside others))
  each test spared = subst (λ fs. Lacks test [] fs) (append-nil (laid (negsuc 0) (tree l inside others))) (walk test spared (negsuc 0) (tree l inside others) [] [] start tt)
