-- Nulls of lists and structs.
use Rattle.std.proofs.Common.{◌≡◌, ℕ, ◌+◌, ◌<◌, inl, Bool, true, false, List, [], ◌∷◌, length, get_or, refl, ap, sym, ◌∙◌, arith}
use Rattle.lan_model.specs.declared.tree.Field.{Field}
use Rattle.lan_model.specs.Plain.{list, struct, PlainField, field, PlainFields, null, items, no_values, plain_field, plain_fields}
use Rattle.lan_model.specs.Table.{IsField}
use Rattle.lan_levels.specs.declared.slot.State.TheVariants as state
use Rattle.lan_levels.specs.declared.join.Join.TheVariants as join
use Rattle.lan_levels.specs.declared.bare.Mark.TheVariants as mark
use Rattle.lan_levels.specs.PlainSlots.{nothing, PlainSlot}
use Rattle.lan_levels.specs.SlotsOf.{slot}
use Rattle.lan_levels.specs.EachLeaf.{first_depth, first_depth_of}
use Rattle.lan_levels.specs.BadSlots.{SaysNull, IsBadNull}
use Rattle.lan_levels.specs.Taken.{Took, Refused, layers_below, bare_slot, TookBare, IsNotBare, TookEachBare, SomeIsNotBare, MarkIs}
use Rattle.lan_levels.proofs.Reps.{first_rep-is, layers_below-is}
use Rattle.lan_levels.proofs.EachLeaf.{EachLeaf-map2}
use Rattle.lan_levels.proofs.TakenBare.{took_each_bare, some_is_not_bare, took_null, took_empty, no_null, no_empty}

bad_null : (f : PlainField ℕ) (n : Bool) (k i : ℕ) (old new : ℕ → List PlainSlot) → n ≡ false → TookBare f false 0 k i old new → IsBadNull n f i old
bad_null f n k i old new isn took = record {
  not_nullable = isn;
  earlier = [];
  outer = k;
  nulls = EachLeaf-map2 f i (λ d j ty path. layers_below 0 path + 1 ≡ length path + 0) (λ d j ty path. old j ≡ bare_slot false 0 k path ∷ new j) (SaysNull old [] k)
      (λ d j ty path a b e x y. record {
        depth = layers_below 0 path;
        outermost = omega arith;
        before = [];
        rest = new j;
        stands = y ∙ ap (λ (r : ℕ). slot r (state.Null (layers_below 0 path)) nothing ∷ new j) (first_rep-is k path);
        place = refl;
      })
      (layers_below-is f i 0) took.taken;
}

-- the slots of a list's leaves are those of its item's
list_bare : (id : ℕ) (name : List ℕ) (n : Bool) (item : PlainField ℕ) (empty : Bool) (k i : ℕ) (old new : ℕ → List PlainSlot) → TookBare item empty 1 (k + 1) i old new
    → TookBare (field id name n (list item)) empty 0 k i old new
list_bare id name n item empty k i old new h = record { taken = h.taken; keeps = h.keeps }

pub took_null_list : (id : ℕ) (name : List ℕ) (n : Bool) (item : PlainField ℕ) (k i : ℕ) (old new : ℕ → List PlainSlot) → n ≡ true → TookBare item false 1 (k + 1) i old new
    → Took (field id name n (list item)) k i old new null
took_null_list id name n item k i old new is h = took_null (field id name n (list item)) k i old new is (list_bare id name n item false k i old new h)

pub bad_null_list : (id : ℕ) (name : List ℕ) (n : Bool) (item : PlainField ℕ) (k i : ℕ) (slots old new : ℕ → List PlainSlot) → n ≡ false → TookBare item false 1 (k + 1) i old new
    → Refused (field id name n (list item)) k i slots old (join.NotNull id)
bad_null_list id name n item k i slots old new isn h =
    inl (refl, bad_null (field id name n (list item)) n k i old new isn (list_bare id name n item false k i old new h))

pub no_null_list : (id : ℕ) (name : List ℕ) (n : Bool) (item : PlainField ℕ) (k i other : ℕ) (slots old : ℕ → List PlainSlot) → IsField item
    → MarkIs (first_depth item + 1) (old i) mark.Null → IsNotBare item false 1 (k + 1) i old other → Refused (field id name n (list item)) k i slots old (join.Shape other)
no_null_list id name n item k i other slots old ok m h = no_null (field id name n (list item)) k i other old ok m h

pub took_empty_list : (id : ℕ) (name : List ℕ) (n : Bool) (item : PlainField ℕ) (k i : ℕ) (old new : ℕ → List PlainSlot) → TookBare item true 1 (k + 1) i old new
    → Took (field id name n (list item)) k i old new (items no_values)
took_empty_list id name n item k i old new h = took_empty id name n item k i old new (list_bare id name n item true k i old new h)

pub no_empty_list : (id : ℕ) (name : List ℕ) (n : Bool) (item : PlainField ℕ) (k i other : ℕ) (slots old : ℕ → List PlainSlot) → IsField item
    → MarkIs (first_depth item + 1) (old i) mark.Empty → IsNotBare item true 1 (k + 1) i old other → Refused (field id name n (list item)) k i slots old (join.Shape other)
no_empty_list id name n item k i other slots old ok m h = no_empty id name n item k i other old ok m h

struct_bare : (id : ℕ) (name : List ℕ) (n : Bool) (members : PlainFields ℕ) (k i : ℕ) (old new : ℕ → List PlainSlot) → TookEachBare members false 1 k i old new
    → TookBare (field id name n (struct members)) false 0 k i old new
struct_bare id name n members k i old new h =
    let each = took_each_bare members n 0 false 0 k i old new h in
    record { taken = each.taken; keeps = each.keeps }

pub took_null_struct : (id : ℕ) (name : List ℕ) (n : Bool) (members : PlainFields ℕ) (k i : ℕ) (old new : ℕ → List PlainSlot) → n ≡ true → TookEachBare members false 1 k i old new
    → Took (field id name n (struct members)) k i old new null
took_null_struct id name n members k i old new is h = took_null (field id name n (struct members)) k i old new is (struct_bare id name n members k i old new h)

pub bad_null_struct : (id : ℕ) (name : List ℕ) (n : Bool) (members : PlainFields ℕ) (k i : ℕ) (slots old new : ℕ → List PlainSlot) → n ≡ false → TookEachBare members false 1 k i old new
    → Refused (field id name n (struct members)) k i slots old (join.NotNull id)
bad_null_struct id name n members k i slots old new isn h =
    inl (refl, bad_null (field id name n (struct members)) n k i old new isn (struct_bare id name n members k i old new h))

pub no_null_struct : (id : ℕ) (name : List ℕ) (n : Bool) (members : PlainFields ℕ) (k i other : ℕ) (slots old : ℕ → List PlainSlot) → IsField (field id name n (struct members))
    → MarkIs (first_depth_of members) (old i) mark.Null → SomeIsNotBare members false 1 k i old other → Refused (field id name n (struct members)) k i slots old (join.Shape other)
no_null_struct id name n members k i other slots old ok m h =
    no_null (field id name n (struct members)) k i other old ok m (some_is_not_bare members n 0 false 0 k i old other h)

-- the first member's first leaf is the struct's
pub first_member : (ms : List Field) (m : Field) → 0 < length ms → m ≡ get_or ms 0 m → first_depth_of (plain_fields ms) ≡ first_depth (plain_field m) + 1
first_member [] m lt e = absurd (omega arith)
first_member (x ∷ ms) m lt e = ap (λ (f : Field). first_depth (plain_field f) + 1) (sym e)
