-- Slots one by one.
use Rattle.std.proofs.Common.{◌≡◌, ◌∙◌, ℕ, suc, ◌+◌, ◌<◌, ◌≤◌, Bool, true, false, List, [], ◌∷◌, length, drop, refl, ap, ap₂, sym, arith}
use Rattle.std.specs.Prelude.{slice_get, slice_index, Some}
use Rattle.std.proofs.lemmas.List.{drop_more, drop-drop, drop_all}
use Rattle.std.proofs.lemmas.Option.{get_or_from_slice_get, slice_get_within}
use Rattle.lan_levels.specs.declared.slot.State.{State}
use Rattle.lan_levels.specs.declared.slot.State.TheVariants as state
use Rattle.lan_levels.specs.PlainSlots.{PlainPiece, nothing, PlainSlot}
use Rattle.lan_levels.specs.ChunkForm.{ChunkForm}
use Rattle.lan_levels.specs.ChunkSlots.{woven, value_count, has_value, one_if, first_kept, state_named}
use Rattle.lan_mini.specs.Walk.{slot_with}

pub woven_more : (f : ChunkForm) (r d : ℕ) (rs ds : List ℕ) (vs : List PlainPiece) → woven f (r ∷ rs) (d ∷ ds) vs ≡ slot_with f r d vs ∷ woven f rs ds (drop (one_if (has_value f d)) vs)
unfolding woven
woven_more f r d rs ds vs = refl

pub woven_none : (f : ChunkForm) (ds : List ℕ) (vs : List PlainPiece) → woven f [] ds vs ≡ []
unfolding woven
woven_none f ds vs = refl

pub woven_length : (f : ChunkForm) (rs ds : List ℕ) (vs : List PlainPiece) → length rs ≡ length ds → length (woven f rs ds vs) ≡ length rs
unfolding woven
woven_length f [] ds vs e = refl
woven_length f (r ∷ rs) [] vs e = absurd (omega arith)
woven_length f (r ∷ rs) (d ∷ ds) vs e = ap suc (woven_length f rs ds (drop (one_if (has_value f d)) vs) (omega arith))

-- the slot of the number `i`, and those behind it
pub woven_at : (f : ChunkForm) (rs ds : List ℕ) (vs : List PlainPiece) (i v : ℕ) → i < length rs → i < length ds
    → woven f (drop i rs) (drop i ds) (drop v vs)
    ≡ slot_with f (slice_index rs i) (slice_index ds i) (drop v vs) ∷ woven f (drop (i + 1) rs) (drop (i + 1) ds) (drop (v + one_if (has_value f (slice_index ds i))) vs)
woven_at f rs ds vs i v r d =
    let w = one_if (has_value f (slice_index ds i)) in
    ap₂ (λ (a b : List ℕ). woven f a b (drop v vs)) (drop_more rs i 0 r) (drop_more ds i 0 d)
    ∙ woven_more f (slice_index rs i) (slice_index ds i) (drop (i + 1) rs) (drop (i + 1) ds) (drop v vs)
    ∙ ap (λ (later : List PlainPiece). slot_with f (slice_index rs i) (slice_index ds i) (drop v vs) ∷ woven f (drop (i + 1) rs) (drop (i + 1) ds) later) (drop-drop w v vs)

pub count_at : (f : ChunkForm) (ds : List ℕ) (i : ℕ) → i < length ds → value_count f (drop i ds) ≡ one_if (has_value f (slice_index ds i)) + value_count f (drop (i + 1) ds)
count_at f ds i less = ap (value_count f) (drop_more ds i 0 less)

pub count_past : (f : ChunkForm) (ds : List ℕ) (i : ℕ) → length ds ≤ i → value_count f (drop i ds) ≡ 0
count_past f ds i le = ap (value_count f) (drop_all i ds le)

pub woven_end : (f : ChunkForm) (rs ds : List ℕ) (vs : List PlainPiece) (i : ℕ) → length rs ≤ i → woven f (drop i rs) ds vs ≡ []
woven_end f rs ds vs i le = ap (λ (later : List ℕ). woven f later ds vs) (drop_all i rs le) ∙ woven_none f ds vs

one_at_most : (b : Bool) → one_if b ≤ 1
one_at_most true = omega arith
one_at_most false = omega arith

pub few_values : (f : ChunkForm) (ds : List ℕ) → value_count f ds ≤ length ds
few_values f [] = omega arith
few_values f (d ∷ ds) = let one = one_at_most (has_value f d) in let more = few_values f ds in omega arith

pub kept_here : (s : State) (vs : List PlainPiece) (v : ℕ) (x : PlainPiece) → s ≡ state.Here → slice_get vs v ≡ Some x → first_kept s (drop v vs) ≡ x
kept_here s vs v x e g =
    let less = slice_get_within vs v x g in
    ap₂ (λ (t : State) (later : List PlainPiece). first_kept t later) e (drop_more vs v x less) ∙ get_or_from_slice_get vs v x x g

pub kept_none : (s : State) (vs : List PlainPiece) → (s ≡ state.Here → ⊥) → first_kept s vs ≡ nothing
kept_none state.Here vs other = absurd (other refl)
kept_none (state.Null k) vs other = refl
kept_none (state.Empty k) vs other = refl

pub slot_is : (f : ChunkForm) (r d rep : ℕ) (s : State) (x : PlainPiece) (vs : List PlainPiece) → rep ≡ r → s ≡ state_named f.states d → first_kept s vs ≡ x
    → ◌≡◌ {A = PlainSlot} (record { rep = rep; state = s; value = x }) (slot_with f r d vs)
slot_is f r d rep s x vs a b k =
    ap₂ (λ (n : ℕ) (y : PlainPiece). record { rep = n; state = s; value = y }) a (sym k) ∙ ap (λ (t : State). record { rep = r; state = t; value = first_kept t vs }) b
