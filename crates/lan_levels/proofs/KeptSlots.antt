-- Slots whose bytes stand in one list.
use Rattle.std.proofs.Common.{◌≡◌, ℕ, zero, suc, ◌+◌, ◌-◌, ◌≤◌, List, [], ◌∷◌, ◌++◌, Result, Ok, Err, OnOk, OnErr, Some, length, take, drop, slice_get, refl, ap, ap₂, sym, subst, ◌∙◌, length-append, length-drop, arith}
use Rattle.std.proofs.lemmas.List.{take-append-le}
use Rattle.lan_levels.specs.declared.slot.State.{State}
use Rattle.lan_levels.specs.declared.buffer.Held.{Held}
use Rattle.lan_levels.specs.declared.buffer.Held.TheVariants as held
use Rattle.lan_levels.specs.declared.buffer.Kept.{Kept}
use Rattle.lan_levels.specs.PlainSlots.{PlainPiece, bytes, PlainSlot}
use Rattle.lan_levels.specs.Kept.{kept_piece, kept_slot, kept_slots, IsWithin, AreWithin, Keeping}

pub within_at : (count : ℕ) (ss : List Kept) (i : ℕ) (s : Kept) → AreWithin count ss → slice_get ss i ≡ Some s → IsWithin count s.value
within_at count [] i s h e = absurd (cc)
within_at count (x ∷ ss) zero s h e = let same : x ≡ s = cc in subst (λ (y : Kept). IsWithin count y.value) same h.0
within_at count (x ∷ ss) (suc i) s h e = within_at count ss i s h.1 e

pub kept_at : (all : List ℕ) (ss : List Kept) (i : ℕ) (s : Kept) → slice_get ss i ≡ Some s → slice_get (kept_slots all ss) i ≡ Some (kept_slot all s)
kept_at all [] i s e = absurd (cc)
kept_at all (x ∷ ss) zero s e = let same : x ≡ s = cc in ap (λ (y : Kept). Some (kept_slot all y)) same
kept_at all (x ∷ ss) (suc i) s e = kept_at all ss i s e

drop_front : (at : ℕ) (old more : List ℕ) → at ≤ length old → drop at (old ++ more) ≡ drop at old ++ more
drop_front zero old more h = refl
drop_front (suc at) [] more h = absurd (omega arith)
drop_front (suc at) (x ∷ old) more h = drop_front at old more (omega arith)

part_stays : (at past : ℕ) (old more : List ℕ) → at ≤ past → past ≤ length old → take (past - at) (drop at (old ++ more)) ≡ take (past - at) (drop at old)
part_stays at past old more h k =
    let le : past - at ≤ length (drop at old) = omega (arith, length-drop at old) in
    ap (take (past - at)) (drop_front at old more (omega arith)) ∙ take-append-le (past - at) (drop at old) more le

piece_stays : (old more : List ℕ) (x : Held) → IsWithin (length old) x → kept_piece (old ++ more) x ≡ kept_piece old x
piece_stays old more held.Nothing h = refl
piece_stays old more (held.Bit b) h = refl
piece_stays old more (held.Bytes at past) h = ap bytes (part_stays at past old more h.0 h.1)

pub same_but_value : (r : ℕ) (s : State) (x y : PlainPiece) → x ≡ y → ◌≡◌ {A = PlainSlot} (record { rep = r; state = s; value = x }) (record { rep = r; state = s; value = y })
same_but_value r s x y e = λ i. record { rep = r; state = s; value = e i }

kept_stay : (old more : List ℕ) (ss : List Kept) → AreWithin (length old) ss → kept_slots (old ++ more) ss ≡ kept_slots old ss
kept_stay old more [] h = refl
kept_stay old more (s ∷ ss) h =
    ap₂ (λ (x : PlainSlot) (xs : List PlainSlot). x ∷ xs) (same_but_value s.rep s.state (kept_piece (old ++ more) s.value) (kept_piece old s.value) (piece_stays old more s.value h.0)) (kept_stay old more ss h.1)

within_more : (a b : ℕ) (x : Held) → a ≤ b → IsWithin a x → IsWithin b x
within_more a b held.Nothing le h = tt
within_more a b (held.Bit y) le h = tt
within_more a b (held.Bytes at past) le h = let p = h.1 in (h.0, omega arith)

all_within_more : (a b : ℕ) (ss : List Kept) → a ≤ b → AreWithin a ss → AreWithin b ss
all_within_more a b [] le h = tt
all_within_more a b (s ∷ ss) le h = (within_more a b s.value le h.0, all_within_more a b ss le h.1)

within_push : (count : ℕ) (ss : List Kept) (s : Kept) → AreWithin count ss → IsWithin count s.value → AreWithin count (ss ++ s ∷ [])
within_push count [] s h k = (k, tt)
within_push count (x ∷ ss) s h k = (h.0, within_push count ss s h.1 k)

kept_push : (all : List ℕ) (ss : List Kept) (s : Kept) → kept_slots all (ss ++ s ∷ []) ≡ kept_slots all ss ++ kept_slot all s ∷ []
kept_push all [] s = refl
kept_push all (x ∷ ss) s = ap (λ (xs : List PlainSlot). kept_slot all x ∷ xs) (kept_push all ss s)

-- all that is kept is within the bytes after one is added
pub still_within : (old new : List ℕ) (piece : PlainPiece) (value : Held) (ss : List Kept) → Keeping old new piece value → AreWithin (length old) ss → AreWithin (length new) ss
still_within old new piece value ss k h =
    let count : length (old ++ k.more) ≡ length old + length k.more = length-append old k.more in
    let le : length old ≤ length new = omega (arith, ap (length {A = ℕ}) k.grown) in
    all_within_more (length old) (length new) ss le h

pub pushed_within : (old new : List ℕ) (piece : PlainPiece) (ss now : List Kept) (s : Kept) → Keeping old new piece s.value → AreWithin (length old) ss → now ≡ ss ++ s ∷ [] → AreWithin (length new) now
pushed_within old new piece ss now s k h e =
    subst (AreWithin (length new)) (sym e) (within_push (length new) ss s (still_within old new piece s.value ss k h) k.within)

-- what was kept stays
pub kept_same : (old new : List ℕ) (piece : PlainPiece) (value : Held) (ss : List Kept) → Keeping old new piece value → AreWithin (length old) ss → kept_slots new ss ≡ kept_slots old ss
kept_same old new piece value ss k h = ap (λ (all : List ℕ). kept_slots all ss) k.grown ∙ kept_stay old k.more ss h

-- the slot is added at the end
pub pushed : (old new : List ℕ) (piece : PlainPiece) (ss now : List Kept) (s : Kept) (whole : List PlainSlot) → Keeping old new piece s.value → AreWithin (length old) ss → kept_slots old ss ≡ whole
    → now ≡ ss ++ s ∷ [] → kept_slots new now ≡ whole ++ record { rep = s.rep; state = s.state; value = piece } ∷ []
pushed old new piece ss now s whole k h is e =
    let front : kept_slots new ss ≡ whole = kept_same old new piece s.value ss k h ∙ is in
    ap (kept_slots new) e
    ∙ kept_push new ss s
    ∙ ap₂ (λ (xs : List PlainSlot) (x : PlainSlot). xs ++ x ∷ []) front (same_but_value s.rep s.state (kept_piece new s.value) piece k.is)

-- what follows either way
pub either : {T E : Type 0} (r : Result T E) (P Q R : Type 0) → OnOk r P → OnErr r Q → (P → R) → (Q → R) → R
either (Ok x) P Q R p q f g = f p
either (Err e) P Q R p q f g = g q
