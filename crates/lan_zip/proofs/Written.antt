-- The buffers that are written of slots are a full-zip page of them.
use Rattle.std.proofs.Common.{◌≡◌, ◌==◌, ◌||◌, not, ℕ, zero, suc, ◌+◌, ◌*◌, ◌^◌, ◌<◌, ◌≤◌, Bool, true, false, cond, List, [], ◌∷◌, ◌++◌, Some, length, take, drop, slice_get, All, map, refl, ap, subst, sym, ◌∙◌, arith, append_assoc, length-append, add-one, add-zero}
use Rattle.std.proofs.lemmas.Bool.{eqb-true, eq-eqb}
use Rattle.std.proofs.lemmas.List.{append-nil, map-append, take_at, length-map}
use Rattle.std.proofs.lemmas.List.Elements.{All-take, All-head, All-tail, All-weaker}
use Rattle.std.proofs.lemmas.List.Folds.{concat-append}
use Rattle.std.proofs.lemmas.Nat.{from_le_bytes-to_le_bytes_8}
use Rattle.std.proofs.Math.Seq.{drop-append-add}
use Rattle.std.specs.Int.{w64, from_le_bytes}
use Rattle.std.specs.List.{concat}
use Rattle.lan_bytes.specs.Numbers.{low_first}
use Rattle.lan_levels.specs.declared.shape.ValueForm.{ValueForm}
use Rattle.lan_levels.specs.declared.shape.ValueForm.TheVariants as value
use Rattle.lan_levels.specs.declared.slot.State.{State}
use Rattle.lan_levels.specs.declared.slot.State.TheVariants as state
use Rattle.lan_levels.specs.Codes.{layer_code}
use Rattle.lan_levels.specs.Offsets.{place_at}
use Rattle.lan_levels.specs.PlainSlots.{PlainSlot}
use Rattle.lan_levels.specs.SlotsOf.{lists_in}
use Rattle.lan_levels.specs.ZipBuffers.{same_state, state_number, zip_part, zip_content, zip_places}
use Rattle.lan_levels.specs.ZipForm.{PlainForm, value_form, kind_of, leaf_form}
use Rattle.lan_levels.specs.ZipRows.{slots_before, rest_in, slot_place, row_place, ArePlaces, IsSized, HasPlaces}
use Rattle.lan_levels.specs.ZipSlots.{spelled, starts, AreRows, IsZip}
use Rattle.lan_levels.specs.ZipSpelling.{AreSpelled}
use Rattle.lan_levels.specs.ZipWritten.{CanStand, PartsAre, begins, row_starts, is_variable, is_indexed}
use Rattle.lan_levels.proofs.ZipSpelling.{slots_read}
use Rattle.lan_zip.specs.Inverse.{WrittenPagesStand}
use Rattle.lan_zip.proofs.Digits.{Roomy, form_roomy}
use Rattle.lan_zip.proofs.Inverse.{parts_spelled}

-- ---- the number of a state

pub same_is : (a b : State) → same_state a b ≡ true → a ≡ b
same_is state.Here state.Here e = refl
same_is state.Here (state.Null k) e = absurd (cc e)
same_is state.Here (state.Empty k) e = absurd (cc e)
same_is (state.Null j) state.Here e = absurd (cc e)
same_is (state.Null j) (state.Null k) e = ap state.Null (eqb-true j k e)
same_is (state.Null j) (state.Empty k) e = absurd (cc e)
same_is (state.Empty j) state.Here e = absurd (cc e)
same_is (state.Empty j) (state.Null k) e = absurd (cc e)
same_is (state.Empty j) (state.Empty k) e = ap state.Empty (eqb-true j k e)

same_itself : (a : State) → same_state a a ≡ true
same_itself state.Here = refl
same_itself (state.Null k) = eq-eqb k k refl
same_itself (state.Empty k) = eq-eqb k k refl

not_same : (a b : State) → same_state a b ≡ false → a ≡ b → ⊥
not_same a b e same = absurd (cc (subst (λ (x : State). same_state x b ≡ false) same e, same_itself b))

numbered_case : (b : Bool) (t : State) (states : List State) (s : State) (m : ℕ) → same_state t s ≡ b → slice_get states m ≡ Some s → slice_get (t ∷ states) (cond b 0 (m + 1)) ≡ Some s
numbered_case true t states s m e h = ap Some (same_is t s e)
numbered_case false t states s m e h = rw add-one h

numbered_none : (b : Bool) (t : State) (states : List State) (s : State) (m : ℕ) → same_state t s ≡ b → t ≡ s → slice_get (t ∷ states) (cond b 0 m) ≡ Some s
numbered_none true t states s m e h = ap Some h
numbered_none false t states s m e h = absurd (not_same t s e h)

numbered : (states : List State) (s : State) (n : ℕ) → slice_get states n ≡ Some s → slice_get states (state_number states s) ≡ Some s
numbered [] s n h = absurd (cc h)
numbered (t ∷ states) s zero h =
    let first : t ≡ s = cc in
    numbered_none (same_state t s) t states s (state_number states s + 1) refl first
numbered (t ∷ states) s (suc n) h = numbered_case (same_state t s) t states s (state_number states s) refl (numbered states s n h)

-- ---- the slots, one after another

parts_are : (f : PlainForm) (slots : List PlainSlot) → All (CanStand f) slots → PartsAre f slots (map (zip_part f) slots)
parts_are f [] can = tt
parts_are f (s ∷ slots) can =
    let one = All-head (CanStand f) s slots can in
    (record { def = state_number f.states s.state; numbered = numbered f.states s.state one.number one.numbered; is = refl }, parts_are f slots (All-tail (CanStand f) s slots can))

content_spelled : (f : PlainForm) (slots : List PlainSlot) → Roomy f → All (CanStand f) slots → AreSpelled f slots (zip_content f slots)
content_spelled f slots room can = parts_spelled f slots (map (zip_part f) slots) room can (parts_are f slots can)

content-append : (f : PlainForm) (xs ys : List PlainSlot) → zip_content f (xs ++ ys) ≡ zip_content f xs ++ zip_content f ys
content-append f xs ys = ap concat (map-append (zip_part f) xs ys) ∙ concat-append (map (zip_part f) xs) (map (zip_part f) ys)

-- ---- the slots before a row

record Front (lists n : ℕ) (slots : List PlainSlot) : Type 0 where
  more : List PlainSlot
  is : slots ≡ slots_before lists n slots ++ more

front_case : (b : Bool) (s : PlainSlot) (slots front more : List PlainSlot) → slots ≡ front ++ more → (rest : List PlainSlot) × (s ∷ slots ≡ cond b [] (s ∷ front) ++ rest)
front_case true s slots front more is = (s ∷ slots, refl)
front_case false s slots front more is = (more, ap (λ (l : List PlainSlot). s ∷ l) is)

front_of : (lists n : ℕ) (slots : List PlainSlot) → Front lists n slots
front_of lists n [] = record { more = []; is = refl }
front_of lists zero (s ∷ slots) =
    let rest = front_of lists zero slots in
    let whole = front_case (s.rep == lists) s slots (slots_before lists zero slots) rest.more rest.is in
    record { more = whole.0; is = whole.1 }
front_of lists (suc n) (s ∷ slots) =
    let rest = front_of lists (cond (s.rep == lists) n (suc n)) slots in
    record { more = rest.more; is = ap (λ (l : List PlainSlot). s ∷ l) rest.is }

place_is : (f : PlainForm) (n : ℕ) (all used rest : List ℕ) (slots : List PlainSlot) → spelled f n all ≡ Some (record { slots = slots; rest = rest }) → all ≡ used ++ rest → slot_place f n all ≡ length used
unfolding slot_place
place_is f n all used rest slots e whole = omega (arith, ap (λ (o : _). length (rest_in o)) e, ap length whole, length-append used rest)

row_is : (f : PlainForm) (n : ℕ) (slots : List PlainSlot) → Roomy f → All (CanStand f) slots → row_place f n (zip_content f slots) slots ≡ length (zip_content f (slots_before f.lists n slots))
row_is f n slots room can =
    let front = front_of f.lists n slots in
    let before = slots_before f.lists n slots in
    let can_before : All (CanStand f) before =
    subst (All (CanStand f)) (ap (take (length before)) front.is ∙ take_at before front.more (length before) refl) (All-take (CanStand f) (length before) slots can) in
    let whole : zip_content f slots ≡ zip_content f before ++ zip_content f front.more = ap (zip_content f) front.is ∙ content-append f before front.more in
    let read = slots_read f before (zip_content f before) (zip_content f front.more) (content_spelled f before room can_before) in
    place_is f (length before) (zip_content f slots) (zip_content f before) (zip_content f front.more) before (ap (spelled f (length before)) whole ∙ read) whole

-- ---- the places of rows

pub begins_is : (lists : ℕ) (s : PlainSlot) → s.rep ≤ lists → begins lists s ≡ (s.rep == lists)
begins_is zero s within = sym (eq-eqb s.rep 0 (omega (arith, within)))
begins_is (suc l) s within = grind arith

first_place : (n : ℕ) (rest : List ℕ) → n < 2 ^ 64 → place_at (low_first 8 n ++ rest) 0 ≡ n
first_place n rest few = from_le_bytes-to_le_bytes_8 n few

later_place : (at n : ℕ) (rest : List ℕ) → place_at (low_first 8 at ++ rest) (suc n) ≡ place_at rest n
later_place at n rest =
    let eight : length (low_first 8 at) ≡ 8 = refl in
    let past : 8 * suc n ≡ length (low_first 8 at) + 8 * n = omega (arith, eight) in
    ap (from_le_bytes w64) (ap (λ (m : ℕ). drop m (low_first 8 at ++ rest)) past ∙ drop-append-add (low_first 8 at) rest (8 * n))

abbrev Reps : PlainForm → PlainSlot → Type 0
Reps f s = s.rep ≤ f.lists

-- the places of rows whose first slot lies at a place, and then the end
abbrev places_from : PlainForm → ℕ → List PlainSlot → ℕ → List ℕ
places_from f at slots total = row_starts f.lists at slots (map (zip_part f) slots) ++ low_first 8 total

each_case : (b : Bool) (f : PlainForm) (s : PlainSlot) (slots : List PlainSlot) (at total n : ℕ) → (s.rep == f.lists) ≡ b → n ≤ cond b 1 0 + starts f.lists slots → at ≤ total → total < 2 ^ 64
    → ((m : ℕ) → m ≤ starts f.lists slots → place_at (places_from f (at + length (zip_part f s)) slots total) m ≡ at + length (zip_part f s) + length (zip_content f (slots_before f.lists m slots)))
    → place_at ((cond b (low_first 8 at) [] ++ row_starts f.lists (at + length (zip_part f s)) slots (map (zip_part f) slots)) ++ low_first 8 total) n ≡ at + length (zip_content f (slots_before f.lists n (s ∷ slots)))
each_case true f s slots at total zero e below within few later =
    let more = row_starts f.lists (at + length (zip_part f s)) slots (map (zip_part f) slots) in
    ap (λ (l : List ℕ). place_at l 0) (append_assoc (low_first 8 at) more (low_first 8 total))
    ∙ first_place at (more ++ low_first 8 total) (omega (arith, within, few))
    ∙ sym (add-zero at)
    ∙ ap (λ (b : Bool). at + length (zip_content f (cond b [] (s ∷ slots_before f.lists 0 slots)))) (sym e)
each_case true f s slots at total (suc n) e below within few later =
    let more = row_starts f.lists (at + length (zip_part f s)) slots (map (zip_part f) slots) in
    let before = slots_before f.lists n slots in
    ap (λ (l : List ℕ). place_at l (suc n)) (append_assoc (low_first 8 at) more (low_first 8 total))
    ∙ later_place at n (more ++ low_first 8 total)
    ∙ later n (omega (arith, below))
    ∙ omega (arith, length-append (zip_part f s) (zip_content f before))
    ∙ ap (λ (b : Bool). at + length (zip_content f (s ∷ slots_before f.lists (cond b n (suc n)) slots))) (sym e)
each_case false f s slots at total zero e below within few later =
    later 0 (omega arith)
    ∙ omega (arith, length-append (zip_part f s) (zip_content f (slots_before f.lists 0 slots)))
    ∙ ap (λ (b : Bool). at + length (zip_content f (cond b [] (s ∷ slots_before f.lists 0 slots)))) (sym e)
each_case false f s slots at total (suc n) e below within few later =
    later (suc n) (omega (arith, below))
    ∙ omega (arith, length-append (zip_part f s) (zip_content f (slots_before f.lists (suc n) slots)))
    ∙ ap (λ (b : Bool). at + length (zip_content f (s ∷ slots_before f.lists (cond b n (suc n)) slots))) (sym e)

each_place : (f : PlainForm) (slots : List PlainSlot) (at total n : ℕ) → All (Reps f) slots → n ≤ starts f.lists slots → at + length (zip_content f slots) ≡ total → total < 2 ^ 64
    → place_at (places_from f at slots total) n ≡ at + length (zip_content f (slots_before f.lists n slots))
each_place f [] at total zero reps below whole few = from_le_bytes-to_le_bytes_8 total few ∙ sym whole
each_place f [] at total (suc n) reps below whole few = absurd (omega (arith, below))
each_place f (s ∷ slots) at total n reps below whole few =
    let here = at + length (zip_part f s) in
    let size = length-append (zip_part f s) (zip_content f slots) in
    let more = row_starts f.lists here slots (map (zip_part f) slots) in
    let rest = All-tail (Reps f) s slots reps in
    ap (λ (b : Bool). place_at ((cond b (low_first 8 at) [] ++ more) ++ low_first 8 total) n) (begins_is f.lists s (All-head (Reps f) s slots reps))
    ∙ each_case (s.rep == f.lists) f s slots at total n refl below (omega (arith, whole)) few (λ m le. each_place f slots here total m rest le (omega (arith, whole, size)) few)

starts_length_case : (b : Bool) (at n : ℕ) (more : List ℕ) → length more ≡ 8 * n → length (cond b (low_first 8 at) [] ++ more) ≡ 8 * (cond b 1 0 + n)
starts_length_case true at n more e = length-append (low_first 8 at) more ∙ (let eight : length (low_first 8 at) ≡ 8 = refl in omega (arith, eight, e))
starts_length_case false at n more e = omega (arith, e)

starts_length : (f : PlainForm) (slots : List PlainSlot) (at : ℕ) → All (Reps f) slots → length (row_starts f.lists at slots (map (zip_part f) slots)) ≡ 8 * starts f.lists slots
starts_length f [] at reps = refl
starts_length f (s ∷ slots) at reps =
    let more = row_starts f.lists (at + length (zip_part f s)) slots (map (zip_part f) slots) in
    ap (λ (b : Bool). length (cond b (low_first 8 at) [] ++ more)) (begins_is f.lists s (All-head (Reps f) s slots reps))
    ∙ starts_length_case (s.rep == f.lists) at (starts f.lists slots) more (starts_length f slots (at + length (zip_part f s)) (All-tail (Reps f) s slots reps))

-- without list layers each slot begins a row
pub starts_each : (slots : List PlainSlot) → All (λ (s : PlainSlot). s.rep ≤ 0) slots → starts 0 slots ≡ length slots
starts_each [] reps = refl
starts_each (s ∷ slots) reps =
    let P : PlainSlot → Type 0 = λ t. t.rep ≤ 0 in
    let zero_rep : (s.rep == 0) ≡ true = eq-eqb s.rep 0 (omega (arith, All-head P s slots reps)) in
    omega (arith, ap {B = ℕ} (λ (b : Bool). cond b 1 0) zero_rep, starts_each slots (All-tail P s slots reps))

pub starts_rows : (lists rows : ℕ) (slots : List PlainSlot) → All (λ (s : PlainSlot). s.rep ≤ lists) slots → AreRows lists rows slots → starts lists slots ≡ rows
starts_rows zero rows slots reps are = starts_each slots reps ∙ are
starts_rows (suc l) rows slots reps are = are.0

-- ---- whether places are stored

indexed_not : (l : ℕ) (v : ValueForm) → (not (l == 0) || is_variable v) ≡ true → l ≡ 0 → IsSized v → ⊥
indexed_not l value.Bool e none sized = absurd (cc (e, eq-eqb l 0 none))
indexed_not l (value.Fixed n) e none sized = absurd (cc (e, eq-eqb l 0 none))
indexed_not l value.Variable e none sized = sized

sized_of : (b : Bool) (v : ValueForm) → (not b || is_variable v) ≡ false → IsSized v
sized_of true value.Bool e = tt
sized_of true (value.Fixed n) e = tt
sized_of true value.Variable e = absurd (cc e)
sized_of false v e = absurd (cc e)

single_of : (b : Bool) (l : ℕ) (v : ValueForm) → (l == 0) ≡ b → (not b || is_variable v) ≡ false → l ≡ 0
single_of true l v is e = eqb-true l 0 is
single_of false l v is e = absurd (cc e)

has_places : (b : Bool) (f : PlainForm) (rows : ℕ) (slots : List PlainSlot) → is_indexed f ≡ b → lists_in f.layers ≡ f.lists → ArePlaces f rows (zip_content f slots) slots (zip_places f slots) → HasPlaces f rows (zip_content f slots) slots (cond b (zip_places f slots ∷ []) [])
has_places true f rows slots e same are = (λ even. indexed_not f.lists f.value e even.single even.sized, are)
has_places false f rows slots e same are =
    let single = single_of (f.lists == 0) f.lists f.value refl e in
    record { single = single; flat = same ∙ single; sized = sized_of (f.lists == 0) f.value e }

-- ---- the page

pub written_stand : WrittenPagesStand
written_stand leaf rows slots few can are small =
    let f = leaf_form leaf in
    let codes = map layer_code leaf.layers in
    let count : length codes ≤ 16 = omega (arith, length-map leaf.layers layer_code, few) in
    let room = form_roomy codes leaf.layers (value_form leaf.ty (kind_of leaf.ty)) count few in
    let content = zip_content f slots in
    let reps : All (Reps f) slots = All-weaker (CanStand f) (Reps f) (λ s c. c.rep) slots can in
    let begun = starts_rows f.lists rows slots reps are in
    let read = slots_read f slots content [] (content_spelled f slots room can) in
    let zip : IsZip f rows content slots = record { are = ap (spelled f (length slots)) (sym (append-nil content)) ∙ read; rows_are = are } in
    let places : ArePlaces f rows content slots (zip_places f slots) = record {
      size = length-append (row_starts f.lists 0 slots (map (zip_part f) slots)) (low_first 8 (length content)) ∙ (let eight : length (low_first 8 (length content)) ≡ 8 = refl in omega (arith, starts_length f slots 0 reps, eight, begun));
      each = λ n below. omega (arith, each_place f slots 0 (length content) n reps (omega (arith, below, begun)) (omega arith) small, row_is f n slots room can);
    } in
    (zip, has_places (is_indexed f) f rows slots refl refl places)
