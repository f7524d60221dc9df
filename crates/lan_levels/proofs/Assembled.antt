-- From what is taken and refused to the value of a field, or to why there is none.
use Rattle.std.proofs.Common.{◌≡◌, ℕ, zero, suc, Bool, true, List, [], ◌∷◌, ◌++◌, drop, get_or, replicate, All, refl, ap, sym, subst, ◌∙◌}
use Rattle.std.proofs.lemmas.List.{append-nil}
use Rattle.lan_model.specs.declared.tree.Layer.{Layer}
use Rattle.lan_model.specs.Plain.{PlainType, PlainField, PlainValue}
use Rattle.lan_model.specs.Fits.{Fits}
use Rattle.lan_model.specs.Table.{IsField}
use Rattle.lan_levels.specs.declared.slot.SlotRun.{SlotRun}
use Rattle.lan_levels.specs.declared.join.Join.{Join}
use Rattle.lan_levels.specs.declared.join.Join.TheVariants as join
use Rattle.lan_levels.specs.PlainSlots.{PlainSlot}
use Rattle.lan_levels.specs.SlotsOf.{slots_of, lists_in}
use Rattle.lan_levels.specs.EachLeaf.{EachLeaf, SomeLeaf, IsClosed}
use Rattle.lan_levels.specs.Loosened.{loosened}
use Rattle.lan_levels.specs.BadSlots.{slots_at}
use Rattle.lan_levels.specs.Taken.{left_at, AtStart, first_rep, BeginsIn, NoneBeginsWith, Took, Refused, IsUnread}
use Rattle.lan_levels.specs.Joins.{AreRunsOf, IsJoin, HasSlotsIn, IsMisshapen, JoinCause}
use Rattle.lan_levels.proofs.Reps.{same_rep}
use Rattle.lan_levels.proofs.Loosened.{loosen}
use Rattle.lan_levels.proofs.Chosen.{all_closed}
use Rattle.lan_levels.proofs.EachLeaf.{EachLeaf-map, EachLeaf-map2, EachLeaf-path, SomeLeaf-map, SomeLeaf-none, SomeLeaf-not}
use Rattle.lan_levels.proofs.Proper.{OkSlot, proper, ok_no_null, ok_no_text}
use Rattle.lan_levels.proofs.NullPlaces.{null_same}
use Rattle.lan_levels.proofs.Joined.{HasSlots, leaves_have, runs_have, run_count, run_named}

abbrev nothing_more : PlainType ℕ → List Layer → List PlainSlot
nothing_more ty path = []

abbrev In : List SlotRun → (ℕ → Bool) → PlainValue → ℕ → ℕ → PlainType ℕ → List Layer → Type 0
In runs chosen v d j ty path = chosen j ≡ true → slots_at runs j ≡ slots_of ty path (lists_in path) v

-- a value that has the slots of the chosen leaves begins there, and nothing follows it
begins : (f : PlainField ℕ) (runs : List SlotRun) (left : ℕ → List PlainSlot) (chosen : ℕ → Bool) (v : PlainValue) → AtStart runs left → HasSlotsIn f runs chosen v
    → EachLeaf f 0 (BeginsIn chosen 0 v left nothing_more)
begins f runs left chosen v start h =
    EachLeaf-map f 0 (In runs chosen v) (BeginsIn chosen 0 v left nothing_more)
    (λ d j ty path a b c x there. (
      start j ∙ x there ∙ ap (λ (r : ℕ). slots_of ty path r v) (sym (same_rep path)) ∙ sym (append-nil (slots_of ty path (first_rep 0 path) v)),
      tt,
    )) h

-- no value of the shape has the slots of the leaf `k`
abbrev NoneHas : PlainField ℕ → List SlotRun → ℕ → Type 0
NoneHas f runs k = (chosen : ℕ → Bool) → IsClosed f 0 chosen → chosen k ≡ true → (v : PlainValue) → Fits (loosened f) v → HasSlotsIn f runs chosen v → ⊥

pub cause_of : (f : PlainField ℕ) (runs : List SlotRun) (left : ℕ → List PlainSlot) (e : Join) → AtStart runs left → Refused f 0 0 (slots_at runs) left e → JoinCause f runs e
cause_of f runs left (join.Shape id) start h =
    SomeLeaf-map f 0 (λ d j ty path. (d ≡ id) × NoneBeginsWith f 0 0 left j) (λ d k ty path. (d ≡ id) × NoneHas f runs k)
    (λ d j ty path a b c x. (x.0, λ chosen closed there v fit has. x.1 chosen closed there v nothing_more fit (begins f runs left chosen v start has))) h
cause_of f runs left (join.NotNull id) start h = null_same f 0 id (slots_at runs) left (λ j. sym (start j)) h
cause_of f runs left (join.NotText id) start h = h
cause_of f runs left join.Memory start h = tt

-- slots are left in a leaf
pub left_over : (f : PlainField ℕ) (runs : List SlotRun) (old new : ℕ → List PlainSlot) (v : PlainValue) (id : ℕ) → AreRunsOf f runs → AtStart runs old → Took f 0 0 old new v
    → IsUnread runs new id → IsMisshapen f runs id
left_over f runs old new v id are start took left =
    let at = left.0 in
    let run = left.1 in
    let here : SomeLeaf f 0 (λ d k ty path. (d ≡ run.leaf) × (k ≡ at)) = run_named f runs at run are left.4 in
    SomeLeaf-map f 0 (λ d k ty path. (d ≡ run.leaf) × (k ≡ at)) (λ d k ty path. (d ≡ id) × NoneHas f runs k)
    (λ d k ty path a b c x. (
      x.0 ∙ left.5,
      λ chosen closed there w fit has.
          SomeLeaf-not f 0 (λ d' k' ty' path'. (d' ≡ run.leaf) × (k' ≡ at)) (λ d' k' ty' path'. chosen k' ≡ true → new k' ≡ [])
          (λ d' k' ty' path' a' b' c' y z.
          let same : k' ≡ at = y.1 in
          let also : k ≡ at = x.1 in
          let none : new k' ≡ [] = z (ap chosen (same ∙ sym also) ∙ there) in
          let some : new k' ≡ left.2 ∷ left.3 = ap new same ∙ left.6 in
          let bad : [] ≡ left.2 ∷ left.3 = sym none ∙ some in
          absurd (cc))
          here
          (took.only chosen w nothing_more closed fit (begins f runs old chosen w start has)),
    ))
    here

-- nothing is left
pub whole_join : (f : PlainField ℕ) (runs : List SlotRun) (old new : ℕ → List PlainSlot) (v : PlainValue) → AreRunsOf f runs → AtStart runs old → Took f 0 0 old new v
    → ((j : ℕ) → new j ≡ []) → IsJoin f runs v
whole_join f runs old new v are start took none = (
  took.fits,
  runs_have f runs v (run_count f runs are)
      (EachLeaf-map f 0 (λ d j ty path. old j ≡ slots_of ty path (first_rep 0 path) v ++ new j) (HasSlots runs v)
      (λ d j ty path a b c x.
      sym (start j)
      ∙ x
      ∙ ap (λ (s : List PlainSlot). slots_of ty path (first_rep 0 path) v ++ s) (none j)
      ∙ append-nil (slots_of ty path (first_rep 0 path) v)
      ∙ ap (λ (r : ℕ). slots_of ty path r v) (same_rep path))
      took.taken),
)

-- the slots of a value that fits are proper
join_proper : (f : PlainField ℕ) (runs : List SlotRun) (v : PlainValue) → IsJoin f runs v → EachLeaf f 0 (λ d j ty path. All (OkSlot ty path) (slots_at runs j))
join_proper f runs v h =
    EachLeaf-map2 f 0 (λ d j ty path. (r : ℕ) → All (OkSlot ty path) (slots_of ty path r v)) (HasSlots runs v) (λ d j ty path. All (OkSlot ty path) (slots_at runs j))
    (λ d j ty path a b c x y. subst (All (OkSlot ty path)) (sym y) (x (lists_in path)))
    (EachLeaf-path f 0 (λ ty path. (r : ℕ) → All (OkSlot ty path) (slots_of ty path r v)) (proper v f h.0))
    (leaves_have f runs v h.1)

-- where there is a cause other than want of memory, there is no value
pub no_join : (f : PlainField ℕ) (runs : List SlotRun) (e : Join) → IsField f → JoinCause f runs e → (e ≡ join.Memory → ⊥) → (v : PlainValue) → IsJoin f runs v → ⊥
no_join f runs (join.Shape id) ok h other v is =
    SomeLeaf-none f 0 (SomeLeaf-map f 0 (λ d k ty path. (d ≡ id) × NoneHas f runs k) (λ d k ty path. ⊥)
    (λ d k ty path a b c x.
    x.1 (λ j. true) (all_closed f 0) refl v (loosen v f is.0)
    (EachLeaf-map f 0 (HasSlots runs v) (In runs (λ j. true) v) (λ d j ty path a b c y there. y) (leaves_have f runs v is.1))) h)
no_join f runs (join.NotNull id) ok h other v is = ok_no_null f 0 id (slots_at runs) ok (join_proper f runs v is) h
no_join f runs (join.NotText id) ok h other v is = ok_no_text f 0 id (slots_at runs) (join_proper f runs v is) h
no_join f runs join.Memory ok h other v is = other refl

replicate_or : (count j : ℕ) → get_or {A = ℕ} (replicate count 0) j 0 ≡ 0
replicate_or zero j = refl
replicate_or (suc count) zero = refl
replicate_or (suc count) (suc j) = replicate_or count j

pub at_start : (runs : List SlotRun) (places : List ℕ) (count : ℕ) → places ≡ replicate count 0 → AtStart runs (left_at runs places)
at_start runs places count e j = ap (λ (p : List ℕ). drop (get_or p j 0) (slots_at runs j)) e ∙ ap (λ (k : ℕ). drop k (slots_at runs j)) (replicate_or count j)
