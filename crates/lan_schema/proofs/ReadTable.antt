-- What sound trees stand for are a table's fields.
use Rattle.std.proofs.Common.{◌≡◌, ℕ, zero, suc, ◌+◌, ◌^◌, ◌<◌, ◌≤◌, false, cond, List, [], ◌∷◌, length, length-append, refl, sym, ap, subst, ◌∙◌, arith, pos, negsuc}
use Rattle.std.specs.Prelude.{ℤ, nat_lt, ◌&&◌, ◌≢◌, Option, Some, None, option_map, All}
use Rattle.std.specs.Str.{bytes_eq, IsUtf8}
use Rattle.std.proofs.lemmas.Bool.{both_ways, ltb-false}
use Rattle.std.proofs.lemmas.List.{append-nil}
use Rattle.std.proofs.lemmas.List.Elements.{All-append}
use Rattle.std.proofs.lemmas.Slice.Eq.{bytes_eq-Decides}
use Rattle.lan_model.specs.Plain.{PlainType, primitive, vector, text, bytes, list, struct, PlainField, field, PlainFields, no_fields, one_field}
use Rattle.lan_model.specs.Table.{name_of, names_of, IsField, AreFields, HasNamedItems, HaveNamedItems, depths_of, all_depths}
use Rattle.lan_wire.specs.Readers.{IsInt32}
use Rattle.lan_schema.specs.declared.shape.Shape.{Shape}
use Rattle.lan_schema.specs.declared.shape.Shape.TheVariants as shape
use Rattle.lan_schema.specs.FieldTree.{signed}
use Rattle.lan_schema.specs.FieldsOf.{typed, type_of, natural, labelled, with_members, fields_of}
use Rattle.lan_schema.specs.Forest.{Label, Trees, none, tree, Absent, Apart, AreDistinct}
use Rattle.lan_schema.specs.Listed.{is_negative}
use Rattle.lan_schema.specs.Logical.{IsLeafType}
use Rattle.lan_schema.specs.Shapes.{shape_of, takes}
use Rattle.lan_schema.specs.Written.{trees_in, trees_of, CanTellType, CanTellAll, AreTableFields}
use Rattle.lan_schema.proofs.ForestRules.{leaf_at, leaves_within, AreSoundTrees}
use Rattle.lan_schema.proofs.LaidRules.{Unlike, IsSound, AreSound}
use Rattle.lan_schema.proofs.LeafNames.{named_once}
use Rattle.lan_schema.proofs.TableRules.{AllSome, AllApart, Shallow, names_first}
use Rattle.lan_schema.proofs.WrittenTrees.{small_signed}

-- ---- trees with the same numbers

abbrev Alike : Trees → Trees → Type 0
Alike none none = Unit {0}
Alike none (tree m more beside) = ⊥
Alike (tree l inside others) none = ⊥
Alike (tree l inside others) (tree m more beside) = (l.id ≡ m.id) × Alike inside more × Alike others beside

absent_alike : (z : ℤ) (ts us : Trees) → Alike ts us → Absent z us → Absent z ts
absent_alike z none us a h = tt
absent_alike z (tree l inside others) none a h = absurd a
absent_alike z (tree l inside others) (tree m more beside) a h = ((λ e. h.0 (sym a.0 ∙ e)), absent_alike z inside more a.1 h.1, absent_alike z others beside a.2 h.2)

apart_alike : (ts us vs ws : Trees) → Alike ts us → Alike vs ws → Apart us ws → Apart ts vs
apart_alike none us vs ws a b h = tt
apart_alike (tree l inside others) none vs ws a b h = absurd a
apart_alike (tree l inside others) (tree m more beside) vs ws a b h =
    (absent_alike l.id vs ws b (subst (λ z. Absent z ws) (sym a.0) h.0), apart_alike inside more vs ws a.1 b h.1, apart_alike others beside vs ws a.2 b h.2)

distinct_alike : (ts us : Trees) → Alike ts us → AreDistinct us → AreDistinct ts
distinct_alike none us a d = tt
distinct_alike (tree l inside others) none a d = absurd a
distinct_alike (tree l inside others) (tree m more beside) a d =
    (absent_alike l.id inside more a.1 (subst (λ z. Absent z more) (sym a.0) d.0), absent_alike l.id others beside a.2 (subst (λ z. Absent z beside) (sym a.0) d.1), apart_alike inside more others beside a.1 a.2 d.2, distinct_alike inside more a.1 d.3, distinct_alike others beside a.2 d.4)

-- ---- lists

some_cons : (name : List ℕ) (names : List (List ℕ)) → 0 < length name → AllSome names → AllSome (name ∷ names)
some_cons name names here rest zero d lt = here
some_cons name names here rest (suc k) d lt = rest k d (omega (arith, lt))

apart_cons : (name : List ℕ) (names : List (List ℕ)) → All (λ (other : List ℕ). name ≢ other) names → AllApart names → AllApart (name ∷ names)
apart_cons name names here rest zero zero d lt in_range = absurd (omega (arith, lt))
apart_cons name names here rest zero (suc j) d lt in_range = here j d (omega (arith, in_range))
apart_cons name names here rest (suc i) zero d lt in_range = absurd (omega (arith, lt))
apart_cons name names here rest (suc i) (suc j) d lt in_range = rest i j d (omega (arith, lt)) (omega (arith, in_range))

shallow_one : (n : ℕ) → n ≤ 16 → Shallow (n ∷ [])
shallow_one n h zero d lt = h
shallow_one n h (suc k) d lt = absurd (omega (arith, lt))

-- ---- what trees stand for

-- the names of the trees side by side
abbrev tops : Trees → List (List ℕ)
tops none = []
tops (tree l inside others) = l.name ∷ tops others

unlike_tops : (name : List ℕ) (ts : Trees) → Unlike name ts → All (λ (other : List ℕ). name ≢ other) (tops ts)
unlike_tops name none u k d lt = absurd (omega (arith, lt))
unlike_tops name (tree l inside others) u zero d lt = λ e. both_ways (bytes_eq name l.name) u.0 ((bytes_eq-Decides name l.name).1 e)
unlike_tops name (tree l inside others) u (suc k) d lt = unlike_tops name others u.1 k d (omega (arith, lt))

-- each number has 32 bits, and each name is UTF-8
abbrev pub AreTold : Trees → Type 0
AreTold none = Unit {0}
AreTold (tree l inside others) = IsInt32 l.id × IsUtf8 l.name × AreTold inside × AreTold others

-- sound trees inside so many layers stand for these fields
record StandFor (outer : ℕ) (ts : Trees) (fields : PlainFields ℕ) : Type 0 where
  names : names_of fields ≡ tops ts
  some : AllSome (names_of fields)
  apart : AllApart (names_of fields)
  each : AreFields fields
  items : HaveNamedItems fields
  leaves : length (all_depths fields outer) ≡ leaves_within ts
  layers : Shallow (all_depths fields outer)
  told : CanTellAll fields
  alike : Alike (trees_of fields) ts

-- a sound field in its place has this type
record HasType (outer : ℕ) (l : Label) (inside : Trees) (ty : PlainType ℕ) : Type 0 where
  is : IsField (field (natural l.id) l.name l.nullable ty)
  items : HasNamedItems (field (natural l.id) l.name l.nullable ty)
  leaves : length (depths_of (field (natural l.id) l.name l.nullable ty) outer) ≡ leaf_at l.logical + leaves_within inside
  layers : Shallow (depths_of (field (natural l.id) l.name l.nullable ty) outer)
  told : CanTellType ty
  alike : Alike (trees_in ty) inside

abbrev TypeOption : Type 0
TypeOption = Option (PlainType ℕ)

abbrev FieldsOption : Type 0
FieldsOption = Option (PlainFields ℕ)

no_type : TypeOption
no_type = None

some_type : (a b : PlainType ℕ) → Some a ≡ Some b → a ≡ b
some_type a b e = cc

none_type : (a : PlainType ℕ) → (let r : TypeOption = None in r) ≡ Some a → ⊥
none_type a e = absurd cc

none_fields : (a : PlainFields ℕ) → (let r : FieldsOption = None in r) ≡ Some a → ⊥
none_fields a e = absurd cc

some_fields : (a b : PlainFields ℕ) → Some a ≡ Some b → a ≡ b
some_fields a b e = cc

leaf_shape : (s : Shape) (l : Label) → shape_of l.logical ≡ s → leaf_at l.logical ≡ cond (takes s 0) 1 0
leaf_shape s l e = ap (λ (t : Shape). cond (takes t 0) 1 0) e

-- the last layer of a leaf
leaf_layers : (outer : ℕ) (l : Label) (inside others : Trees) → IsSound outer l inside others → shape_of l.logical ≡ shape.Leaf → Shallow ((outer + 1) ∷ [])
leaf_layers outer l inside others s e =
    shallow_one (outer + 1) (ltb-false 16 (outer + 1) (subst (λ (t : Shape). (takes t 0 && nat_lt 16 (outer + 1)) ≡ false) e s.shallow))

leaf_has : (ty : PlainType ℕ) (outer : ℕ) (l : Label) (inside others : Trees) → IsSound outer l inside others → StandFor (outer + 1) inside no_fields → shape_of l.logical ≡ shape.Leaf → IsLeafType ty → HasType outer l inside ty
leaf_has (primitive q) outer l inside others s t e h = record { is = tt; items = tt; leaves = omega (arith, t.leaves, leaf_shape shape.Leaf l e); layers = leaf_layers outer l inside others s e; told = tt; alike = t.alike }
leaf_has (vector q n) outer l inside others s t e h = record { is = h; items = tt; leaves = omega (arith, t.leaves, leaf_shape shape.Leaf l e); layers = leaf_layers outer l inside others s e; told = tt; alike = t.alike }
leaf_has text outer l inside others s t e h = record { is = tt; items = tt; leaves = omega (arith, t.leaves, leaf_shape shape.Leaf l e); layers = leaf_layers outer l inside others s e; told = tt; alike = t.alike }
leaf_has bytes outer l inside others s t e h = record { is = tt; items = tt; leaves = omega (arith, t.leaves, leaf_shape shape.Leaf l e); layers = leaf_layers outer l inside others s e; told = tt; alike = t.alike }
leaf_has (list item) outer l inside others s t e h = absurd h
leaf_has (struct members) outer l inside others s t e h = absurd h

first_named : (f : PlainField ℕ) → AllSome (names_of (one_field f no_fields)) → 0 < length (name_of f)
first_named (field id name nullable ty) h = h zero name (omega arith)

some_names : (f : PlainField ℕ) (fs : PlainFields ℕ) → 0 < length (names_of (one_field f fs))
some_names f fs = omega (arith, ap length (names_first f fs))

struct_has : (f : PlainField ℕ) (fs : PlainFields ℕ) (outer : ℕ) (l : Label) (inside : Trees) → StandFor (outer + 1) inside (one_field f fs) → shape_of l.logical ≡ shape.Struct → HasType outer l inside (struct (one_field f fs))
struct_has f fs outer l inside t e = record {
  is = ((some_names f fs, t.some, t.apart), t.each);
  items = t.items;
  leaves = omega (arith, t.leaves, leaf_shape shape.Struct l e);
  layers = t.layers;
  told = t.told;
  alike = t.alike;
}

list_has : (f : PlainField ℕ) (outer : ℕ) (l : Label) (inside : Trees) → StandFor (outer + 1) inside (one_field f no_fields) → shape_of l.logical ≡ shape.List → HasType outer l inside (list f)
list_has f outer l inside t e =
    let one = append-nil (depths_of f (outer + 1)) in
    record {
      is = t.each.0;
      items = (first_named f t.some, t.items.0);
      leaves = omega (arith, t.leaves, ap length one, leaf_shape shape.List l e);
      layers = subst Shallow one t.layers;
      told = t.told.0;
      alike = t.alike;
    }

by_type : (outer : ℕ) (l : Label) (inside : Trees) (a b : PlainType ℕ) → HasType outer l inside a → Some a ≡ Some b → HasType outer l inside b
by_type outer l inside a b h e = subst (λ (ty : PlainType ℕ). HasType outer l inside ty) (some_type a b e) h

has_type : (s : Shape) (members : PlainFields ℕ) (outer : ℕ) (l : Label) (inside others : Trees) (ty : PlainType ℕ) → IsSound outer l inside others → StandFor (outer + 1) inside members → shape_of l.logical ≡ s → typed s l.logical members ≡ Some ty → HasType outer l inside ty
has_type shape.Struct no_fields outer l inside others ty s t e is = absurd (none_type ty is)
has_type shape.Struct (one_field f fs) outer l inside others ty s t e is = by_type outer l inside (struct (one_field f fs)) ty (struct_has f fs outer l inside t e) is
has_type shape.List no_fields outer l inside others ty s t e is = absurd (none_type ty is)
has_type shape.List (one_field f no_fields) outer l inside others ty s t e is = by_type outer l inside (list f) ty (list_has f outer l inside t e) is
has_type shape.List (one_field f (one_field g fs)) outer l inside others ty s t e is = absurd (none_type ty is)
has_type shape.Leaf no_fields outer l inside others ty s t e is = leaf_has ty outer l inside others s t e (named_once l.logical ty is).0
has_type shape.Leaf (one_field f fs) outer l inside others ty s t e is = absurd (none_type ty is)

-- a number that isn't negative and has 32 bits
small_natural : (z : ℤ) → is_negative z ≡ false → IsInt32 z → (natural z < 2 ^ 31) × (signed (natural z) ≡ z)
small_natural (pos n) h is = (is, small_signed n is)
small_natural (negsuc n) h is = absurd (cc h)

not_empty : (name : List ℕ) → bytes_eq name [] ≡ false → 0 < length name
not_empty [] h = absurd (both_ways (bytes_eq [] []) h refl)
not_empty (b ∷ bs) h = omega arith

stand_before : (outer : ℕ) (l : Label) (inside beside : Trees) (others : PlainFields ℕ) (ty : PlainType ℕ) → IsSound outer l inside beside → IsInt32 l.id → IsUtf8 l.name → HasType outer l inside ty → StandFor outer beside others → StandFor outer (tree l inside beside) (labelled l others ty)
stand_before outer l inside beside others ty s int utf8 h o =
    let f : PlainField ℕ = field (natural l.id) l.name l.nullable ty in
    let small = small_natural l.id s.id int in
    record {
      names = ap (λ (names : List (List ℕ)). l.name ∷ names) o.names;
      some = some_cons l.name (names_of others) (not_empty l.name s.name) o.some;
      apart = apart_cons l.name (names_of others) (subst (λ (names : List (List ℕ)). All (λ (other : List ℕ). l.name ≢ other) names) (sym o.names) (unlike_tops l.name beside s.unlike)) o.apart;
      each = (h.is, o.each);
      items = (h.items, o.items);
      leaves = omega (arith, h.leaves, o.leaves, length-append (depths_of f outer) (all_depths others outer));
      layers = All-append (λ (depth : ℕ). depth ≤ 16) (depths_of f outer) (all_depths others outer) h.layers o.layers;
      told = ((small.0, utf8, h.told), o.told);
      alike = (small.1, h.alike, o.alike);
    }

stand_none : (outer : ℕ) → StandFor outer none no_fields
stand_none outer = record {
  names = refl;
  some = λ k d lt. absurd (omega (arith, lt));
  apart = λ i j d lt in_range. absurd (omega (arith, in_range));
  each = tt;
  items = tt;
  leaves = refl;
  layers = λ k d lt. absurd (omega (arith, lt));
  told = tt;
  alike = tt;
}

-- the parts of what a tree and others stand for
record HasParts (l : Label) (a b : FieldsOption) (fields : PlainFields ℕ) : Type 0 where
  members : PlainFields ℕ
  others : PlainFields ℕ
  ty : PlainType ℕ
  inside : a ≡ Some members
  beside : b ≡ Some others
  type : type_of l.logical members ≡ Some ty
  whole : labelled l others ty ≡ fields

parts_of : (l : Label) (a b : FieldsOption) (fields : PlainFields ℕ) → with_members l a b ≡ Some fields → HasParts l a b fields
parts_of l None b fields e = absurd (none_fields fields e)
parts_of l (Some members) None fields e = absurd (none_fields fields e)
parts_of l (Some members) (Some others) fields e = by_option (type_of l.logical members) refl e where
  by_option : (o : TypeOption) → type_of l.logical members ≡ o → option_map (labelled l others) o ≡ Some fields → HasParts l (Some members) (Some others) fields
  by_option None is e = absurd (none_fields fields e)
  by_option (Some ty) is e = record { members = members; others = others; ty = ty; inside = refl; beside = refl; type = is; whole = some_fields (labelled l others ty) fields e }

stand : (ts : Trees) (outer : ℕ) (fields : PlainFields ℕ) → AreSound outer ts → AreTold ts → fields_of ts ≡ Some fields → StandFor outer ts fields
stand none outer fields s told e = subst (λ (fs : PlainFields ℕ). StandFor outer none fs) (some_fields no_fields fields e) (stand_none outer)
stand (tree l inside beside) outer fields s told e =
    let p = parts_of l (fields_of inside) (fields_of beside) fields e in
    let i = stand inside (outer + 1) p.members s.1 told.2 p.inside in
    let o = stand beside outer p.others s.2 told.3 p.beside in
    let h = has_type (shape_of l.logical) p.members outer l inside beside p.ty s.0 i refl p.type in
    subst (λ (fs : PlainFields ℕ). StandFor outer (tree l inside beside) fs) p.whole (stand_before outer l inside beside p.others p.ty s.0 told.0 told.1 h o)

-- fields that a writer can write
pub record AreTellable (fields : PlainFields ℕ) : Type 0 where
  pub table : AreTableFields fields
  pub told : CanTellAll fields
  pub apart : AreDistinct (trees_of fields)

pub tellable : (l : Label) (inside beside : Trees) (fields : PlainFields ℕ) → AreSoundTrees (tree l inside beside) → AreTold (tree l inside beside) → fields_of (tree l inside beside) ≡ Some fields → AreTellable fields
tellable l inside beside fields s told e =
    let ts : Trees = tree l inside beside in
    let f = stand ts 0 fields s.sound told e in
    record {
      table = record {
        named = (omega (arith, ap length f.names), f.some, f.apart);
        each = f.each;
        items = f.items;
        leaves = omega (arith, f.leaves, s.leaves);
        layers = f.layers;
      };
      told = f.told;
      apart = distinct_alike (trees_of fields) ts f.alike s.distinct;
    }
