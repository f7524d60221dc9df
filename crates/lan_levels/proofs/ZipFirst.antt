-- The slot at the front of bytes.
use Rattle.std.proofs.Common.{◌≡◌, ◌==◌, not, ℕ, ◌+◌, ◌/◌, ◌%◌, ◌^◌, ◌<◌, ◌≤◌, Bool, true, false, cond, List, [], ◌∷◌, Option, Some, None, length, take, drop, slice_get, refl, ap, sym, ◌∙◌, arith, length-drop}
use Rattle.std.proofs.lemmas.Bool.{le-ltb, lt-ltb, ltb-false}
use Rattle.std.proofs.Math.Nat.{zero-div, zero-mod}
use lib.Dec.{ltb}
use Rattle.std.specs.Int.{w32}
use Rattle.lan_bytes.specs.Numbers.{number_at}
use Rattle.lan_levels.specs.declared.slot.State.{State}
use Rattle.lan_levels.specs.declared.slot.State.TheVariants as state
use Rattle.lan_levels.specs.PlainSlots.{PlainSlot, bytes, bit, nothing}
use Rattle.lan_levels.specs.declared.shape.ValueForm.{ValueForm}
use Rattle.lan_levels.specs.declared.shape.ValueForm.TheVariants as value
use Rattle.lan_levels.specs.ZipForm.{PlainForm}
use Rattle.lan_levels.specs.ZipSlots.{Valued, cut, level, slot, sized_part, value_part, kept, is_bare, slot_value, word_number, with_value, with_state, with_word, first_slot}

pub word_cut : (f : PlainForm) (all : List ℕ) → length all < f.word → cut ≡ first_slot f all
unfolding first_slot
word_cut f all lt = ap (λ (b : Bool). cond b cut (with_word f (word_number (take f.word all)) (drop f.word all))) (sym (lt-ltb (length all) f.word lt))

pub word_read : (f : PlainForm) (all : List ℕ) (n : ℕ) → f.word ≤ length all → n ≡ word_number (take f.word all) → with_word f n (drop f.word all) ≡ first_slot f all
unfolding first_slot
word_read f all n le e =
    ap (λ (k : ℕ). with_word f k (drop f.word all)) e
    ∙ ap (λ (b : Bool). cond b cut (with_word f (word_number (take f.word all)) (drop f.word all))) (sym (le-ltb (length all) f.word le))

-- without a control word, each slot has a value
pub wordless : (f : PlainForm) (later : List State) (all : List ℕ) → f.word ≡ 0 → f.states ≡ state.Here ∷ later → with_value f 0 state.Here (slot_value f state.Here all) ≡ first_slot f all
wordless f later all w s =
    let number : 0 ≡ word_number (take f.word all) = sym (ap (λ (k : ℕ). word_number (take k all)) w) in
    let here : slice_get f.states 0 ≡ Some state.Here = ap (λ (ss : List State). slice_get ss 0) s in
    let from : drop f.word all ≡ all = ap (λ (k : ℕ). drop k all) w in
    sym
    (ap (λ (k : ℕ). with_state f k (slice_get f.states (0 % 2 ^ f.bits)) (drop f.word all)) (zero-div (2 ^ f.bits))
    ∙ ap (λ (k : ℕ). with_state f 0 (slice_get f.states k) (drop f.word all)) (zero-mod (2 ^ f.bits))
    ∙ ap (λ (o : Option State). with_state f 0 o (drop f.word all)) here
    ∙ ap (λ (bs : List ℕ). with_state f 0 (Some state.Here) bs) from)
    ∙ word_read f all 0 (omega arith) number

pub first_nil : (f : PlainForm) → 0 < f.word → first_slot f [] ≡ cut
first_nil f lt = sym (word_cut f [] lt)

sized_case : (b : Bool) (n : ℕ) (all : List ℕ) (v : Valued) → cond b None (Some (record { piece = bytes (take n all); rest = drop n all })) ≡ Some v → length v.rest ≤ length all
sized_case true n all v e = absurd (cc)
sized_case false n all v e =
    let same : ◌≡◌ {A = Valued} (record { piece = bytes (take n all); rest = drop n all }) v = cc in
    omega (arith, ap (λ (x : Valued). length x.rest) same, length-drop n all)

sized_rest : (n : ℕ) (all : List ℕ) (v : Valued) → sized_part n all ≡ Some v → length v.rest ≤ length all
sized_rest n all v e = sized_case (ltb (length all) n) n all v e

variable_case : (b : Bool) (all : List ℕ) (v : Valued) → cond b None (sized_part (number_at w32 all 0) (drop 4 all)) ≡ Some v → length v.rest ≤ length all
variable_case true all v e = absurd (cc)
variable_case false all v e = let le = sized_rest (number_at w32 all 0) (drop 4 all) v e in omega (arith, length-drop 4 all)

bool_rest : (b : ℕ) (rest : List ℕ) (v : Valued) → value_part value.Bool (b ∷ rest) ≡ Some v → length v.rest ≤ length (b ∷ rest)
bool_rest b rest v e =
    let same : ◌≡◌ {A = Valued} (record { piece = bit (not (b == 0)); rest = rest }) v = cc in
    omega (arith, ap (λ (x : Valued). length x.rest) same)

part_rest : (f : ValueForm) (all : List ℕ) (v : Valued) → value_part f all ≡ Some v → length v.rest ≤ length all
part_rest value.Bool [] v e = absurd (cc)
part_rest value.Bool (b ∷ rest) v e =
    bool_rest b rest v e
part_rest (value.Fixed n) all v e = sized_rest n all v e
part_rest value.Variable all v e = variable_case (ltb (length all) 4) all v e

-- a value that is read over, or kept, ends where it ended
kept_rest : (s : State) (o : Option Valued) (all : List ℕ) (v : Valued) → ((w : Valued) → o ≡ Some w → length w.rest ≤ length all) → kept s o ≡ Some v → length v.rest ≤ length all
kept_rest s None all v h e = absurd (cc)
kept_rest state.Here (Some w) all v h e = h v e
kept_rest (state.Null k) (Some w) all v h e =
    let same : ◌≡◌ {A = Valued} (record { piece = nothing; rest = w.rest }) v = cc in
    let le = h w refl in
    omega (arith, ap (λ (x : Valued). length x.rest) same)
kept_rest (state.Empty k) (Some w) all v h e =
    let same : ◌≡◌ {A = Valued} (record { piece = nothing; rest = w.rest }) v = cc in
    let le = h w refl in
    omega (arith, ap (λ (x : Valued). length x.rest) same)

bare_case : (b : Bool) (f : PlainForm) (s : State) (all : List ℕ) (v : Valued) → cond b (Some (record { piece = nothing; rest = all })) (kept s (value_part f.value all)) ≡ Some v → length v.rest ≤ length all
bare_case true f s all v e =
    let same : ◌≡◌ {A = Valued} (record { piece = nothing; rest = all }) v = cc in
    omega (arith, ap (λ (x : Valued). length x.rest) same)
bare_case false f s all v e = kept_rest s (value_part f.value all) all v (part_rest f.value all) e

value_rest : (f : PlainForm) (s : State) (all : List ℕ) (v : Valued) → slot_value f s all ≡ Some v → length v.rest ≤ length all
value_rest f s all v e = bare_case (is_bare f.layers s) f s all v e

rep_case : (b : Bool) (t : PlainSlot) (rest : List ℕ) (s : PlainSlot) (next : List ℕ) → cond b level (slot t rest) ≡ slot s next → rest ≡ next
rep_case true t rest s next e = absurd (cc)
rep_case false t rest s next e = cc

with_value_rest : (f : PlainForm) (rep : ℕ) (st : State) (o : Option Valued) (all : List ℕ) (s : PlainSlot) (next : List ℕ) → ((v : Valued) → o ≡ Some v → length v.rest ≤ length all)
    → with_value f rep st o ≡ slot s next → length next ≤ length all
with_value_rest f rep st None all s next h e = absurd (cc)
with_value_rest f rep st (Some v) all s next h e =
    let same = rep_case (ltb f.lists rep) (record { rep = rep; state = st; value = v.piece }) v.rest s next e in
    let le = h v refl in
    omega (arith, ap (length {A = ℕ}) same)

with_state_rest : (f : PlainForm) (rep : ℕ) (o : Option State) (all : List ℕ) (s : PlainSlot) (next : List ℕ) → with_state f rep o all ≡ slot s next → length next ≤ length all
with_state_rest f rep None all s next e = absurd (cc)
with_state_rest f rep (Some st) all s next e = with_value_rest f rep st (slot_value f st all) all s next (value_rest f st all) e

word_case : (b : Bool) (f : PlainForm) (n : ℕ) (all rest : List ℕ) (s : PlainSlot) (next : List ℕ) → cond b cut (with_word f n rest) ≡ slot s next → (b ≡ false) × (length next ≤ length rest)
word_case true f n all rest s next e = absurd (cc)
word_case false f n all rest s next e = (refl, with_state_rest f (n / 2 ^ f.bits) (slice_get f.states (n % 2 ^ f.bits)) rest s next e)

-- a slot has its control word at least
pub shorter : (f : PlainForm) (all : List ℕ) (s : PlainSlot) (next : List ℕ) → first_slot f all ≡ slot s next → length next + f.word ≤ length all
unfolding first_slot
shorter f all s next e =
    let h = word_case (ltb (length all) f.word) f (word_number (take f.word all)) all (drop f.word all) s next e in
    let le = ltb-false (length all) f.word h.0 in
    let few = h.1 in
    omega (arith, length-drop f.word all)
