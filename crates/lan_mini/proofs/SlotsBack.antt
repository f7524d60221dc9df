-- Slots that are written are woven of what is written of them.
use Rattle.std.proofs.Common.{◌≡◌, ◌∙◌, ℕ, suc, ◌+◌, ◌/◌, ◌<◌, ◌^◌, Bool, true, false, cond, List, [], ◌∷◌, ◌++◌, length, map, drop, All, refl, ap, ap₂, subst, sym, arith}
use Rattle.std.specs.Prelude.{Option, slice_get, Some, not, unwrap_or, flat_map}
use Rattle.std.specs.List.{concat}
use Rattle.std.proofs.lemmas.List.{length-map}
use Rattle.std.proofs.lemmas.List.Elements.{All-nil, All-cons}
use Rattle.lan_model.specs.declared.tree.Layer.{Layer}
use Rattle.lan_levels.specs.declared.slot.State.{State}
use Rattle.lan_levels.specs.declared.slot.State.TheVariants as state
use Rattle.lan_levels.specs.PlainSlots.{PlainSlot, PlainPiece, nothing, bit, bytes}
use Rattle.lan_levels.specs.Values.{Encoding, flat, bools, variable, IsBuffer, values_of, ValuesOf}
use Rattle.lan_levels.specs.BuiltValues.{bool_bytes, variable_bytes}
use Rattle.lan_levels.specs.ZipSlots.{is_bare}
use Rattle.lan_levels.specs.ChunkForm.{ChunkForm, Storing, buffered, always}
use Rattle.lan_levels.specs.ChunkSlots.{woven, state_named, value_count, one_if, first_kept, pieces_in, AreStored}
use Rattle.lan_levels.specs.MiniWritten.{carried, fixed_bytes, truth, text_bytes, stored_values, buffer_size, values_len, AreNumbered}
use Rattle.lan_values.proofs.Each.{each_map}
use Rattle.lan_values.proofs.FlatRead.{flat_read}
use Rattle.lan_values.proofs.BoolsRead.{bools_read}
use Rattle.lan_values.proofs.BuiltRead.{variable_read}
use Rattle.lan_mini.specs.Building.{CanChunk, FitsStoring}
use Rattle.lan_mini.proofs.Grown.{texts_len}
use Rattle.lan_mini.proofs.Sizes.{EachFits}
use Rattle.lan_mini.proofs.Weaving.{woven_more, woven_none}

-- what is read of a value that is written
abbrev pub written_piece : Storing → PlainPiece → PlainPiece
written_piece (buffered (flat width)) v = bytes (fixed_bytes width v)
written_piece (buffered bools) v = bit (truth v)
written_piece (buffered variable) v = bytes (text_bytes v)
written_piece (always p) v = p

named : (states : List State) (d : ℕ) (s : State) → slice_get states d ≡ Some s → state_named states d ≡ s
named states d s e = ap (λ (o : Option State). unwrap_or o state.Here) e

absent : (st : Storing) (s : State) (v : PlainPiece) → (s ≡ state.Here → ⊥) → FitsStoring st s v → v ≡ nothing
absent st s nothing other h = refl
absent st state.Here v other h = absurd (other refl)
absent (buffered (flat w)) s v other h = absurd h
absent (buffered bools) s v other h = absurd h
absent (buffered variable) s v other h = absurd h
absent (always p) s v other h = absurd h

here_piece : (st : Storing) (v : PlainPiece) → FitsStoring st state.Here v → written_piece st v ≡ v
here_piece (buffered (flat w)) (bytes bs) h = refl
here_piece (buffered bools) (bit b) h = refl
here_piece (buffered variable) (bytes bs) h = refl
here_piece st v h = absurd h

kept_piece : (st : Storing) (s : State) (v : PlainPiece) (vs : List PlainPiece) → FitsStoring st s v → first_kept s (written_piece st v ∷ vs) ≡ v
kept_piece st state.Here v vs h = here_piece st v h
kept_piece st (state.Null k) v vs h = sym (absent st (state.Null k) v (λ e. cc) h)
kept_piece st (state.Empty k) v vs h = sym (absent st (state.Empty k) v (λ e. cc) h)

bare_kept : (st : Storing) (layers : List Layer) (s : State) (v : PlainPiece) (vs : List PlainPiece) → is_bare layers s ≡ true → FitsStoring st s v → first_kept s vs ≡ v
bare_kept st layers state.Here v vs e h = cc
bare_kept st layers (state.Null k) v vs e h = sym (absent st (state.Null k) v (λ q. cc) h)
bare_kept st layers (state.Empty k) v vs e h = sym (absent st (state.Empty k) v (λ q. cc) h)

-- one slot before others, by whether it is bare
step : (f : ChunkForm) (s : PlainSlot) (d : ℕ) (rs ds : List ℕ) (ws : List PlainPiece) (b : Bool) → state_named f.states d ≡ s.state → is_bare f.layers s.state ≡ b → FitsStoring f.values s.state s.value
    → woven f (s.rep ∷ rs) (d ∷ ds) (cond b ws (written_piece f.values s.value ∷ ws)) ≡ s ∷ woven f rs ds ws
step f s d rs ds ws true e bare h =
    woven_more f s.rep d rs ds ws
    ∙ ap₂ (λ (t : State) (c : Bool). record { rep = s.rep; state = t; value = first_kept t ws } ∷ woven f rs ds (drop (one_if (not c)) ws)) e (ap (is_bare f.layers) e ∙ bare)
    ∙ ap (λ (v : PlainPiece). record { rep = s.rep; state = s.state; value = v } ∷ woven f rs ds ws) (bare_kept f.values f.layers s.state s.value ws bare h)
step f s d rs ds ws false e bare h =
    let vs = written_piece f.values s.value ∷ ws in
    woven_more f s.rep d rs ds vs
    ∙ ap₂ (λ (t : State) (c : Bool). record { rep = s.rep; state = t; value = first_kept t vs } ∷ woven f rs ds (drop (one_if (not c)) vs)) e (ap (is_bare f.layers) e ∙ bare)
    ∙ ap (λ (v : PlainPiece). record { rep = s.rep; state = s.state; value = v } ∷ woven f rs ds ws) (kept_piece f.values s.state s.value ws h)

map_if : (st : Storing) (b : Bool) (v : PlainPiece) (vs : List PlainPiece) → map (written_piece st) (cond b vs (v ∷ vs)) ≡ cond b (map (written_piece st) vs) (written_piece st v ∷ map (written_piece st) vs)
map_if st true v vs = refl
map_if st false v vs = refl

pub slots_back : (f : ChunkForm) (slots : List PlainSlot) (defs : List ℕ) → All (CanChunk f) slots → AreNumbered f.states slots defs → woven f (map (λ (s : PlainSlot). s.rep) slots) defs (map (written_piece f.values) (carried f slots)) ≡ slots
slots_back f [] [] h n = woven_none f [] []
slots_back f [] (d ∷ defs) h n = absurd n
slots_back f (s ∷ slots) [] h n = absurd n
slots_back f (s ∷ slots) (d ∷ defs) h n =
    let one : CanChunk f s = h 0 s (omega arith) in
    let rs = map (λ (t : PlainSlot). t.rep) slots in
    let ws = map (written_piece f.values) (carried f slots) in
    let b = is_bare f.layers s.state in
    ap (woven f (s.rep ∷ rs) (d ∷ defs)) (map_if f.values b s.value (carried f slots))
    ∙ step f s d rs defs ws b (named f.states d s.state n.0) refl one.value
    ∙ ap (λ (ss : List PlainSlot). s ∷ ss) (slots_back f slots defs (λ k e lt. h (suc k) e (omega arith)) n.1)

count_if : (b : Bool) (v : PlainPiece) (vs : List PlainPiece) (n : ℕ) → n ≡ length vs → one_if (not b) + n ≡ length (cond b vs (v ∷ vs))
count_if true v vs n e = omega arith
count_if false v vs n e = omega arith

-- as many values are read as are written
pub count_back : (f : ChunkForm) (slots : List PlainSlot) (defs : List ℕ) → AreNumbered f.states slots defs → value_count f defs ≡ length (carried f slots)
count_back f [] [] n = refl
count_back f [] (d ∷ defs) n = absurd n
count_back f (s ∷ slots) [] n = absurd n
count_back f (s ∷ slots) (d ∷ defs) n =
    ap (λ (t : State). one_if (not (is_bare f.layers t)) + value_count f defs) (named f.states d s.state n.0)
    ∙ count_if (is_bare f.layers s.state) s.value (carried f slots) (value_count f defs) (count_back f slots defs n.1)

concat_map : (g : PlainPiece → List ℕ) (vs : List PlainPiece) → concat (map g vs) ≡ flat_map g vs
concat_map g [] = refl
concat_map g (v ∷ vs) = ap (λ (bs : List ℕ). g v ++ bs) (concat_map g vs)

map_map : {X : Type 0} (g : PlainPiece → X) (h : X → PlainPiece) (k : PlainPiece → PlainPiece) (vs : List PlainPiece) → ((v : PlainPiece) → h (g v) ≡ k v) → map h (map g vs) ≡ map k vs
map_map g h k [] e = refl
map_map g h k (v ∷ vs) e = ap₂ (λ (x : PlainPiece) (xs : List PlainPiece). x ∷ xs) (e v) (map_map g h k vs e)

-- what is read of a value buffer that is written
pub record Back (st : Storing) (vs : List PlainPiece) : Type 0 where
  pub is : AreStored st (length vs) (stored_values st vs)
  pub pieces : pieces_in st (length vs) (stored_values st vs) ≡ map (written_piece st) vs

back_of : (e : Encoding) (vs : List PlainPiece) (n : ℕ) (bs : List ℕ) (ws : List PlainPiece) → ValuesOf e n bs ws → n ≡ length vs → bs ≡ stored_values (buffered e) vs → ws ≡ map (written_piece (buffered e)) vs → Back (buffered e) vs
back_of e vs n bs ws h count same pieces = record {
  is = subst (λ (k : ℕ). IsBuffer e k (stored_values (buffered e) vs)) count (subst (λ (cs : List ℕ). IsBuffer e n cs) same h.buffer);
  pieces = ap₂ (values_of e) (sym count) (sym same) ∙ sym h.are ∙ pieces;
}

each_long : (w : ℕ) (vs : List PlainPiece) → EachFits (buffered (flat w)) vs → All (λ (bs : List ℕ). length bs ≡ w) (map (fixed_bytes w) vs)
each_long w [] h = All-nil (λ (bs : List ℕ). length bs ≡ w)
each_long w (v ∷ vs) h = All-cons (λ (bs : List ℕ). length bs ≡ w) (fixed_bytes w v) (map (fixed_bytes w) vs) h.0 (each_long w vs h.1)

pub values_back : (st : Storing) (vs : List PlainPiece) → EachFits st vs → buffer_size st (length vs) (values_len st vs) < 2 ^ 16 → Back st vs
values_back (buffered (flat w)) vs h few =
    back_of (flat w) vs (length (map (fixed_bytes w) vs)) (concat (map (fixed_bytes w) vs)) (map bytes (map (fixed_bytes w) vs)) (flat_read w (map (fixed_bytes w) vs) (each_long w vs h)) (length-map vs (fixed_bytes w)) (concat_map (fixed_bytes w) vs) (map_map (fixed_bytes w) bytes (written_piece (buffered (flat w))) vs (λ v. refl))
values_back (buffered bools) vs h few =
    let ts = map truth vs in
    back_of bools vs (length ts) (bool_bytes ((length ts + 7) / 8) ts) (map bit ts) (bools_read ts) (length-map vs truth) (ap (λ (n : ℕ). bool_bytes ((n + 7) / 8) ts) (length-map vs truth)) (map_map truth bit (written_piece (buffered bools)) vs (λ v. refl))
values_back (buffered variable) vs h few =
    let ts = map text_bytes vs in
    back_of variable vs (length ts) (variable_bytes ts) (map bytes ts) (variable_read ts (omega (arith, length-map vs text_bytes, texts_len vs))) (length-map vs text_bytes) refl (map_map text_bytes bytes (written_piece (buffered variable)) vs (λ v. refl))
values_back (always p) vs h few = record { is = tt; pieces = sym (each_map (λ v. p) (λ i. p) 0 vs (λ k v lt e. refl)) }
