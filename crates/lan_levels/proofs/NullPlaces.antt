-- Bad nulls among what is left stand at the same value of their field among what was there before.
use Rattle.std.proofs.Common.{◌≡◌, ℕ, suc, ◌+◌, inl, inr, Bool, List, [], ◌∷◌, ◌++◌, ap, sym, subst, ◌∙◌, append_assoc}
use Rattle.lan_model.specs.declared.tree.Layer.{Layer}
use Rattle.lan_model.specs.declared.tree.Layer.TheVariants as layer
use Rattle.lan_model.specs.Plain.{PlainType, primitive, vector, text, bytes as byte_type, list, struct, PlainField, field, PlainFields, no_fields, one_field, PlainValue, PlainValues, no_values, one_value}
use Rattle.lan_levels.specs.declared.slot.State.TheVariants as state
use Rattle.lan_levels.specs.PlainSlots.{nothing, PlainSlot}
use Rattle.lan_levels.specs.SlotsOf.{slot, lists_in}
use Rattle.lan_levels.specs.EachLeaf.{leaf_count, EachLeaf, EachLeafOf}
use Rattle.lan_levels.specs.BadSlots.{begun, SaysNull, IsBadNull, HasBadNull, SomeHasBadNull}
use Rattle.lan_levels.specs.Taken.{Keeps, Took, TookLater, TookItems}
use Rattle.lan_levels.proofs.Loosened.{loosen}
use Rattle.lan_levels.proofs.EachLeaf.{EachLeaf-all, EachLeafOf-all, EachLeaf-map2, EachLeaf-path}
use Rattle.lan_levels.proofs.Begun.{Part, begun-append, IsEven, IsEvenInside, AreEvenInside, inside_none, members_none, Of, inside_value}

-- the part stands before what is left
abbrev Before : Part → (ℕ → List PlainSlot) → (ℕ → List PlainSlot) → ℕ → ℕ → PlainType ℕ → List Layer → Type 0
Before part old now d j ty path = old j ≡ part ty path ++ now j

-- and begins these values
abbrev BeforeOf : List ℕ → Part → (ℕ → List PlainSlot) → (ℕ → List PlainSlot) → ℕ → ℕ → PlainType ℕ → List Layer → Type 0
BeforeOf values part old now d j ty path = (begun path (part ty path) ≡ values) × Before part old now d j ty path

says_before : (values earlier : List ℕ) (outer d j : ℕ) (ty : PlainType ℕ) (path : List Layer) (part : Part) (old now : ℕ → List PlainSlot)
    → BeforeOf values part old now d j ty path → SaysNull now earlier outer d j ty path → SaysNull old (values ++ earlier) outer d j ty path
says_before values earlier outer d j ty path part old now b s =
    let null : PlainSlot = slot (lists_in path + outer) (state.Null s.depth) nothing in
    record {
      depth = s.depth;
      outermost = s.outermost;
      before = part ty path ++ s.before;
      rest = s.rest;
      stands = b.1 ∙ ap (λ (x : List PlainSlot). part ty path ++ x) s.stands ∙ sym (append_assoc (part ty path) s.before (null ∷ s.rest));
      place = begun-append path (part ty path) s.before ∙ ap (λ (x : List ℕ). x ++ begun path s.before) b.0 ∙ ap (λ (x : List ℕ). values ++ x) s.place;
    }

null_before : (f : PlainField ℕ) (n : Bool) (i : ℕ) (old now : ℕ → List PlainSlot) (part : Part) → IsEven f part → EachLeaf f i (Before part old now) → IsBadNull n f i now → IsBadNull n f i old
null_before f n i old now part even h bad = record {
  not_nullable = bad.not_nullable;
  earlier = even.values ++ bad.earlier;
  outer = bad.outer;
  nulls = EachLeaf-map2 f i (BeforeOf even.values part old now) (SaysNull now bad.earlier bad.outer) (SaysNull old (even.values ++ bad.earlier) bad.outer)
      (λ d j ty path a b e x y. says_before even.values bad.earlier bad.outer d j ty path part old now x y)
      (EachLeaf-map2 f i (λ d j ty path. begun path (part ty path) ≡ even.values) (Before part old now) (BeforeOf even.values part old now) (λ d j ty path a b e x y. (x, y))
      (EachLeaf-path f i (λ ty path. begun path (part ty path) ≡ even.values) even.each) h)
      bad.nulls;
}

mutual
  before_has : (f : PlainField ℕ) (i id : ℕ) (old now : ℕ → List PlainSlot) (part : Part) → IsEvenInside f part → EachLeaf f i (Before part old now) → HasBadNull f i now id → HasBadNull f i old id
  before_has (field d name n (list item)) i id old now part even h (inl bad) = inl (bad.0, null_before (field d name n (list item)) n i old now part even.0 h bad.1)
  before_has (field d name n (list item)) i id old now part even h (inr bad) = inr (before_has item i id old now (λ ty path. part ty (layer.List n ∷ path)) even.1 h bad)
  before_has (field d name n (struct members)) i id old now part even h (inl bad) = inl (bad.0, null_before (field d name n (struct members)) n i old now part even.0 h bad.1)
  before_has (field d name n (struct members)) i id old now part even h (inr bad) = inr (some_before_has members n 0 i id old now part even.1 h bad)
  before_has (field d name n (primitive p)) i id old now part even h bad = (bad.0, null_before (field d name n (primitive p)) n i old now part even h bad.1)
  before_has (field d name n (vector p c)) i id old now part even h bad = (bad.0, null_before (field d name n (vector p c)) n i old now part even h bad.1)
  before_has (field d name n text) i id old now part even h bad = (bad.0, null_before (field d name n text) n i old now part even h bad.1)
  before_has (field d name n byte_type) i id old now part even h bad = (bad.0, null_before (field d name n byte_type) n i old now part even h bad.1)

  some_before_has : (fs : PlainFields ℕ) (n : Bool) (m i id : ℕ) (old now : ℕ → List PlainSlot) (part : Part) → AreEvenInside fs n m part → EachLeafOf fs n m i (Before part old now)
      → SomeHasBadNull fs i now id → SomeHasBadNull fs i old id
  some_before_has no_fields n m i id old now part even h bad = bad
  some_before_has (one_field f fs) n m i id old now part even h (inl bad) = inl (before_has f i id old now (λ ty path. part ty (layer.Struct n m ∷ path)) even.0 h.0 bad)
  some_before_has (one_field f fs) n m i id old now part even h (inr bad) = inr (some_before_has fs n (suc m) (i + leaf_count f) id old now part even.1 h.1 bad)

-- nothing stands before
abbrev Nothing : Part
Nothing ty path = []

-- the same slots
pub null_same : (f : PlainField ℕ) (i id : ℕ) (old now : ℕ → List PlainSlot) → ((j : ℕ) → old j ≡ now j) → HasBadNull f i now id → HasBadNull f i old id
null_same f i id old now e bad =
    before_has f i id old now Nothing (inside_none f) (EachLeaf-all f i (Before Nothing old now) (λ d j ty path a b some. e j)) bad

-- members after one that is taken
pub null_after : (fs : PlainFields ℕ) (n : Bool) (m i past id : ℕ) (old now : ℕ → List PlainSlot) → Keeps i past old now → SomeHasBadNull fs past now id → SomeHasBadNull fs past old id
null_after fs n m i past id old now keeps bad =
    some_before_has fs n m past id old now Nothing (members_none fs n m) (EachLeafOf-all fs n m past (Before Nothing old now) (λ d j ty path a b some. sym (keeps.after j a))) bad

-- a value of the field was taken
pub null_past : (f : PlainField ℕ) (k i id : ℕ) (old now : ℕ → List PlainSlot) (v : PlainValue) → Took f k i old now v → HasBadNull f i now id → HasBadNull f i old id
null_past f k i id old now v took bad = before_has f i id old now (Of v k) (inside_value v f k (loosen v f took.fits)) took.taken bad

null_past_later : (item : PlainField ℕ) (i id : ℕ) (old now : ℕ → List PlainSlot) (vs : PlainValues) → TookLater item i old now vs → HasBadNull item i now id → HasBadNull item i old id
null_past_later item i id old now no_values took bad = subst (λ (x : ℕ → List PlainSlot). HasBadNull item i x id) (sym took) bad
null_past_later item i id old now (one_value v vs) took bad = null_past item 0 i id old took.1.0 v took.1.1 (null_past_later item i id took.1.0 now vs took.1.2 bad)

-- items of a list were taken
pub null_past_items : (item : PlainField ℕ) (k i id : ℕ) (old now : ℕ → List PlainSlot) (vs : PlainValues) → TookItems item k i old now vs → HasBadNull item i now id → HasBadNull item i old id
null_past_items item k i id old now vs took bad =
    null_past item (k + 1) i id old took.now took.first took.head (null_past_later item i id took.now now took.more took.rest bad)
