-- A leaf's value is taken, or no value has its slot.
use Rattle.std.proofs.Common.{◌≡◌, ◌≢◌, ℕ, ◌+◌, Bool, true, List, [], ◌∷◌, ◌++◌, IsUtf8, refl, ap, sym, ◌∙◌, subst, arith}
use Rattle.std.specs.List.{Contains}
use Rattle.lan_model.specs.declared.tree.Layer.{Layer}
use Rattle.lan_model.specs.declared.tree.Layer.TheVariants as layer
use Rattle.lan_model.specs.Plain.{PlainType, primitive, vector, text, bytes as byte_type, list, struct, field, PlainValue, null, bits, raw, items, group}
use Rattle.lan_model.specs.Fits.{Fits}
use Rattle.lan_levels.specs.declared.slot.State.TheVariants as state
use Rattle.lan_levels.specs.declared.join.Join.{Join}
use Rattle.lan_levels.specs.declared.join.Join.TheVariants as join
use Rattle.lan_levels.specs.PlainSlots.{nothing, bytes, PlainSlot}
use Rattle.lan_levels.specs.SlotsOf.{slots_of, slot}
use Rattle.lan_levels.specs.Loosened.{loosened}
use Rattle.lan_levels.specs.BadSlots.{SaysNull, IsBadText}
use Rattle.lan_levels.specs.Taken.{Step, Took, Refused, IsAlone, leaf_slot, IsLeafValue, HasShape, LeafRefused, BeginsIn}

leaf_slots_is : (ty : PlainType ℕ) (n : Bool) (r : ℕ) (v : PlainValue) → slots_of ty (layer.Item n ∷ []) r v ≡ leaf_slot ty r v ∷ []
leaf_slots_is ty n r null = refl
leaf_slots_is ty n r (bits b) = refl
leaf_slots_is ty n r (raw s) = refl
leaf_slots_is ty n r (items vs) = refl
leaf_slots_is ty n r (group vs) = refl

pub leaf_slot-rep : (ty : PlainType ℕ) (r : ℕ) (v : PlainValue) → (leaf_slot ty r v).rep ≡ r
leaf_slot-rep ty r null = refl
leaf_slot-rep ty r (bits b) = refl
leaf_slot-rep ty r (raw s) = refl
leaf_slot-rep ty r (items vs) = refl
leaf_slot-rep ty r (group vs) = refl

-- what is left after a leaf's value is what is left after any other
only_left : (ty : PlainType ℕ) (n : Bool) (r : ℕ) (w : PlainValue) (s : PlainSlot) (old new rest : List PlainSlot)
    → old ≡ s ∷ new → old ≡ slots_of ty (layer.Item n ∷ []) r w ++ rest → new ≡ rest
only_left ty n r w s old new rest h e =
    let one : old ≡ leaf_slot ty r w ∷ rest = e ∙ ap (λ (x : List PlainSlot). x ++ rest) (leaf_slots_is ty n r w) in
    (cc)

taken_leaf : (ty : PlainType ℕ) (n : Bool) (r : ℕ) (v : PlainValue) (s : PlainSlot) (old new : List PlainSlot) → old ≡ s ∷ new → leaf_slot ty r v ≡ s
    → old ≡ slots_of ty (layer.Item n ∷ []) r v ++ new
taken_leaf ty n r v s old new h e = h ∙ ap (λ (x : PlainSlot). x ∷ new) (sym e) ∙ sym (ap (λ (x : List PlainSlot). x ++ new) (leaf_slots_is ty n r v))

pub took_leaf : (id : ℕ) (name : List ℕ) (n : Bool) (ty : PlainType ℕ) (k i : ℕ) (old new : ℕ → List PlainSlot) (v : PlainValue) (s : PlainSlot)
    → IsAlone ty → Fits (field id name n ty) v → Step i old new s → leaf_slot ty k v ≡ s → Took (field id name n ty) k i old new v
took_leaf id name n (primitive p) k i old new v s a fit step e = record {
  fits = fit;
  taken = taken_leaf (primitive p) n k v s (old i) (new i) step.here e;
  keeps = step.keeps;
  only = λ chosen w rest closed hw h lt. only_left (primitive p) n k w s (old i) (new i) (rest (primitive p) (layer.Item n ∷ [])) step.here (h lt).0;
}
took_leaf id name n (vector p c) k i old new v s a fit step e = record {
  fits = fit;
  taken = taken_leaf (vector p c) n k v s (old i) (new i) step.here e;
  keeps = step.keeps;
  only = λ chosen w rest closed hw h lt. only_left (vector p c) n k w s (old i) (new i) (rest (vector p c) (layer.Item n ∷ [])) step.here (h lt).0;
}
took_leaf id name n text k i old new v s a fit step e = record {
  fits = fit;
  taken = taken_leaf text n k v s (old i) (new i) step.here e;
  keeps = step.keeps;
  only = λ chosen w rest closed hw h lt. only_left text n k w s (old i) (new i) (rest text (layer.Item n ∷ [])) step.here (h lt).0;
}
took_leaf id name n byte_type k i old new v s a fit step e = record {
  fits = fit;
  taken = taken_leaf byte_type n k v s (old i) (new i) step.here e;
  keeps = step.keeps;
  only = λ chosen w rest closed hw h lt. only_left byte_type n k w s (old i) (new i) (rest byte_type (layer.Item n ∷ [])) step.here (h lt).0;
}
took_leaf id name n (list item) k i old new v s a fit step e = absurd a
took_leaf id name n (struct members) k i old new v s a fit step e = absurd a

leaf_fits : (id : ℕ) (name : List ℕ) (n : Bool) (ty : PlainType ℕ) (s : PlainSlot) (v : PlainValue) → IsLeafValue n ty s v → Fits (field id name n ty) v × (leaf_slot ty s.rep v ≡ s)
leaf_fits id name n ty s null h = h
leaf_fits id name n ty s (bits b) h = h
leaf_fits id name n ty s (raw b) h = h
leaf_fits id name n ty s (items vs) h = absurd h.0
leaf_fits id name n ty s (group vs) h = absurd h.0

pub took_leaf_value : (id : ℕ) (name : List ℕ) (n : Bool) (ty : PlainType ℕ) (k i : ℕ) (old new : ℕ → List PlainSlot) (v : PlainValue) (s : PlainSlot)
    → IsAlone ty → Step i old new s → s.rep ≡ k → IsLeafValue n ty s v → Took (field id name n ty) k i old new v
took_leaf_value id name n ty k i old new v s a step e h =
    let (fit, is) = leaf_fits id name n ty s v h in
    took_leaf id name n ty k i old new v s a fit step (ap (λ (r : ℕ). leaf_slot ty r v) (sym e) ∙ is)

shape_of : (id : ℕ) (name : List ℕ) (n : Bool) (ty : PlainType ℕ) (w : PlainValue) → IsAlone ty → Fits (loosened (field id name n ty)) w → HasShape ty w
shape_of id name n ty null a h = tt
shape_of id name n ty (bits b) a h = h
shape_of id name n ty (raw s) a h = h
shape_of id name n (primitive p) (items vs) a h = h
shape_of id name n (vector p k) (items vs) a h = h
shape_of id name n text (items vs) a h = h
shape_of id name n byte_type (items vs) a h = h
shape_of id name n (list item) (items vs) a h = absurd a
shape_of id name n (struct members) (items vs) a h = absurd a
shape_of id name n (primitive p) (group vs) a h = h
shape_of id name n (vector p k) (group vs) a h = h
shape_of id name n text (group vs) a h = h
shape_of id name n byte_type (group vs) a h = h
shape_of id name n (list item) (group vs) a h = absurd a
shape_of id name n (struct members) (group vs) a h = absurd a

-- no value of the shape has a slot that is the next
abbrev NoSlot : PlainType ℕ → ℕ → List PlainSlot → Type 0
NoSlot ty k old = (w : PlainValue) (rest : List PlainSlot) → HasShape ty w → old ≡ leaf_slot ty k w ∷ rest → ⊥

no_start : (id : ℕ) (name : List ℕ) (n : Bool) (ty : PlainType ℕ) (k i : ℕ) (chosen : ℕ → Bool) (old : ℕ → List PlainSlot) (w : PlainValue) (rest : PlainType ℕ → List Layer → List PlainSlot)
    → chosen i ≡ true → IsAlone ty → NoSlot ty k (old i) → Fits (loosened (field id name n ty)) w → BeginsIn chosen k w old rest id i ty (layer.Item n ∷ []) → ⊥
no_start id name n ty k i chosen old w rest lt a h hw b =
    h w (rest ty (layer.Item n ∷ [])) (shape_of id name n ty w a hw)
    ((b lt).0 ∙ ap (λ (x : List PlainSlot). x ++ rest ty (layer.Item n ∷ [])) (leaf_slots_is ty n k w))

pub no_leaf : (id : ℕ) (name : List ℕ) (n : Bool) (ty : PlainType ℕ) (k i : ℕ) (whole old : ℕ → List PlainSlot) → IsAlone ty → NoSlot ty k (old i)
    → Refused (field id name n ty) k i whole old (join.Shape id)
no_leaf id name n (primitive p) k i whole old a h = (refl, λ chosen closed there w rest hw b. no_start id name n (primitive p) k i chosen old w rest there a h hw b)
no_leaf id name n (vector p c) k i whole old a h = (refl, λ chosen closed there w rest hw b. no_start id name n (vector p c) k i chosen old w rest there a h hw b)
no_leaf id name n text k i whole old a h = (refl, λ chosen closed there w rest hw b. no_start id name n text k i chosen old w rest there a h hw b)
no_leaf id name n byte_type k i whole old a h = (refl, λ chosen closed there w rest hw b. no_start id name n byte_type k i chosen old w rest there a h hw b)
no_leaf id name n (list item) k i whole old a h = absurd a
no_leaf id name n (struct members) k i whole old a h = absurd a

-- no slot is left
pub no_leaf_slot : (id : ℕ) (name : List ℕ) (n : Bool) (ty : PlainType ℕ) (k i : ℕ) (whole old : ℕ → List PlainSlot) → IsAlone ty → old i ≡ []
    → Refused (field id name n ty) k i whole old (join.Shape id)
no_leaf_slot id name n ty k i whole old a h = no_leaf id name n ty k i whole old a (λ w rest hw e. let f : [] ≡ leaf_slot ty k w ∷ rest = sym h ∙ e in absurd (cc))

-- the next slot begins something else
pub no_leaf_rep : (id : ℕ) (name : List ℕ) (n : Bool) (ty : PlainType ℕ) (k i : ℕ) (whole old new : ℕ → List PlainSlot) (s : PlainSlot) → IsAlone ty → Step i old new s → s.rep ≢ k
    → Refused (field id name n ty) k i whole old (join.Shape id)
no_leaf_rep id name n ty k i whole old new s a step ne =
    no_leaf id name n ty k i whole old a
    (λ w rest hw e.
    let f : s ∷ new i ≡ leaf_slot ty k w ∷ rest = sym step.here ∙ e in
    let g : s ≡ leaf_slot ty k w = cc in
    ne (ap (λ (x : PlainSlot). x.rep) g ∙ leaf_slot-rep ty k w))

-- the slot is one of all slots of the leaf
abbrev pub Stands : ℕ → (ℕ → List PlainSlot) → (ℕ → List PlainSlot) → Type 0
Stands i whole old = (s : PlainSlot) (rest : List PlainSlot) → old i ≡ s ∷ rest → Contains (whole i) s

same_slot : (s t : PlainSlot) → s.rep ≡ t.rep → s.state ≡ t.state → s.value ≡ t.value → s ≡ t
same_slot s t p q r = λ i. record { rep = p i; state = q i; value = r i }

bad_text : (ty : PlainType ℕ) (whole old new : ℕ → List PlainSlot) (i : ℕ) (s : PlainSlot) (t : List ℕ) → Stands i whole old → Step i old new s → s.state ≡ state.Here → s.value ≡ bytes t
    → (IsUtf8 t → ⊥) → IsBadText (whole i)
bad_text ty whole old new i s t st step here is bad = record {
  rep = s.rep;
  text = t;
  stands = let e : s ≡ slot s.rep state.Here (bytes t) = same_slot s (slot s.rep state.Here (bytes t)) refl here is in let f : old i ≡ slot s.rep state.Here (bytes t) ∷ new i = cc in st (slot s.rep state.Here (bytes t)) (new i) f;
  bad = bad;
}

bad_null : (id : ℕ) (n : Bool) (ty : PlainType ℕ) (old new : ℕ → List PlainSlot) (i : ℕ) (s : PlainSlot) (k : ℕ) → Step i old new s → s.rep ≡ k → s.state ≡ state.Null 0 → s.value ≡ nothing
    → SaysNull old [] k id i ty (layer.Item n ∷ [])
bad_null id n ty old new i s k step r e v =
    let rep : s.rep ≡ 0 + k = omega (arith, r) in
    let is : s ≡ slot (0 + k) (state.Null 0) nothing = same_slot s (slot (0 + k) (state.Null 0) nothing) rep e v in
    record { depth = 0; outermost = refl; before = []; rest = new i; stands = step.here ∙ ap (λ (x : PlainSlot). x ∷ new i) is; place = refl }

pub leaf_refused : (id : ℕ) (name : List ℕ) (n : Bool) (ty : PlainType ℕ) (k i : ℕ) (whole old new : ℕ → List PlainSlot) (s : PlainSlot) (e : Join)
    → IsAlone ty → Stands i whole old → Step i old new s → s.rep ≡ k → LeafRefused id n ty s e → Refused (field id name n ty) k i whole old e
leaf_refused id name n ty k i whole old new s (join.Shape d) a st step r h =
    subst (λ (x : ℕ). Refused (field id name n ty) k i whole old (join.Shape x)) h.0
    (no_leaf id name n ty k i whole old a
    (λ w rest hw e.
    let f : s ∷ new i ≡ leaf_slot ty k w ∷ rest = sym step.here ∙ e in
    let g : leaf_slot ty k w ≡ s = cc in
    h.1 w hw (ap (λ (x : ℕ). leaf_slot ty x w) r ∙ g)))
leaf_refused id name n (primitive p) k i whole old new s (join.NotNull d) a st step r h =
    (h.0, record { not_nullable = h.1; earlier = []; outer = k; nulls = bad_null id n (primitive p) old new i s k step r h.2 h.3 })
leaf_refused id name n (vector p c) k i whole old new s (join.NotNull d) a st step r h =
    (h.0, record { not_nullable = h.1; earlier = []; outer = k; nulls = bad_null id n (vector p c) old new i s k step r h.2 h.3 })
leaf_refused id name n text k i whole old new s (join.NotNull d) a st step r h =
    (h.0, record { not_nullable = h.1; earlier = []; outer = k; nulls = bad_null id n text old new i s k step r h.2 h.3 })
leaf_refused id name n byte_type k i whole old new s (join.NotNull d) a st step r h =
    (h.0, record { not_nullable = h.1; earlier = []; outer = k; nulls = bad_null id n byte_type old new i s k step r h.2 h.3 })
leaf_refused id name n (list item) k i whole old new s (join.NotNull d) a st step r h = absurd a
leaf_refused id name n (struct members) k i whole old new s (join.NotNull d) a st step r h = absurd a
leaf_refused id name n (primitive p) k i whole old new s (join.NotText d) a st step r h = let e : primitive p ≡ text = h.1 in absurd (cc)
leaf_refused id name n (vector p c) k i whole old new s (join.NotText d) a st step r h = let e : vector p c ≡ text = h.1 in absurd (cc)
leaf_refused id name n text k i whole old new s (join.NotText d) a st step r h =
    let t = h.3.0 in
    (h.0, refl, bad_text text whole old new i s t st step h.2 h.3.1 h.3.2)
leaf_refused id name n byte_type k i whole old new s (join.NotText d) a st step r h = let e : byte_type ≡ text = h.1 in absurd (cc)
leaf_refused id name n (list item) k i whole old new s (join.NotText d) a st step r h = absurd a
leaf_refused id name n (struct members) k i whole old new s (join.NotText d) a st step r h = absurd a
leaf_refused id name n ty k i whole old new s join.Memory a st step r h = tt
