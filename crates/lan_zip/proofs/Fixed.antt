-- Slots that are values of so many bytes, with no control word.
use Rattle.std.proofs.Common.{◌≡◌, ℕ, zero, suc, ◌+◌, ◌*◌, ◌/◌, ◌<◌, ◌≤◌, Bool, cond, List, [], ◌∷◌, ◌++◌, Some, None, length, take, drop, ap, sym, ◌∙◌, arith, length-drop}
use Rattle.std.proofs.lemmas.Bool.{le-ltb, lt-ltb}
use Rattle.std.proofs.lemmas.List.{drop_all, drop-drop}
use Rattle.std.proofs.lemmas.Nat.{div_below}
use Rattle.std.proofs.Math.Nat.{div-mul-le_self, lt-div-mul-add}
use Rattle.lan_levels.specs.declared.slot.State.{State}
use Rattle.lan_levels.specs.declared.slot.State.TheVariants as state
use Rattle.lan_levels.specs.PlainSlots.{PlainSlot, bytes}
use Rattle.lan_levels.specs.declared.shape.ValueForm.{ValueForm}
use Rattle.lan_levels.specs.declared.shape.ValueForm.TheVariants as value
use Rattle.lan_levels.specs.ZipForm.{PlainForm}
use Rattle.lan_levels.specs.ZipSlots.{cut, level, slot, sized_part, value_part, kept, with_value, first_slot, spelled}
use Rattle.lan_zip.specs.Walk.{Listed}
use Rattle.lan_zip.specs.Refusals.{More, StopsAt}
use Rattle.lan_levels.proofs.ZipFirst.{wordless}
use Rattle.lan_levels.proofs.ZipWalks.{spelled_none, put_last, count_slots}
use Rattle.lan_zip.proofs.Rows.{Walked, single_rows, stops_single}

-- the slots are values of so many bytes, and nothing else
pub record AreFixed (f : PlainForm) (width : ℕ) : Type 0 where
  pub later : List State
  pub states : f.states ≡ state.Here ∷ later
  pub word : f.word ≡ 0
  pub value : f.value ≡ value.Fixed width

abbrev fixed_slot : List ℕ → ℕ → PlainSlot
fixed_slot all width = record { rep = 0; state = state.Here; value = bytes (take width all) }

-- a present value, in so many bytes
fixed_value : (f : PlainForm) (width : ℕ) (all : List ℕ) → AreFixed f width → with_value f 0 state.Here (kept state.Here (sized_part width all)) ≡ first_slot f all
fixed_value f width all h =
    ap (λ (v : ValueForm). with_value f 0 state.Here (kept state.Here (value_part v all))) (sym h.value)
    ∙ wordless f h.later all h.word h.states

pub fixed_cut : (f : PlainForm) (width : ℕ) (all : List ℕ) → AreFixed f width → length all < width → cut ≡ first_slot f all
fixed_cut f width all h lt =
    ap (λ (b : Bool). with_value f 0 state.Here (kept state.Here (cond b None (Some (record { piece = bytes (take width all); rest = drop width all }))))) (sym (lt-ltb (length all) width lt))
    ∙ fixed_value f width all h

fixed_read : (f : PlainForm) (width : ℕ) (all : List ℕ) → AreFixed f width → width ≤ length all → first_slot f all ≡ slot (fixed_slot all width) (drop width all)
fixed_read f width all h le =
    sym (fixed_value f width all h)
    ∙ ap (λ (b : Bool). with_value f 0 state.Here (kept state.Here (cond b None (Some (record { piece = bytes (take width all); rest = drop width all }))))) (le-ltb (length all) width le)
    ∙ ap (λ (b : Bool). cond b level (slot (fixed_slot all width) (drop width all))) (le-ltb f.lists 0 (omega arith))

-- as many slots as the bytes have room for
pub fixed_walked : (f : PlainForm) (width n : ℕ) (all : List ℕ) → AreFixed f width → n * width ≤ length all → Walked f n all (drop (n * width) all)
fixed_walked f width zero all h le =
    let none : 0 ≡ 0 * width = omega arith in
    record { slots = []; is = spelled_none f all ∙ ap (λ (k : ℕ). Some (record { slots = []; rest = drop k all })) none }
fixed_walked f width (suc n) all h le =
    let front : n * width ≤ length all = omega arith in
    let before = fixed_walked f width n all h front in
    let rest = drop (n * width) all in
    let room : width ≤ length rest = omega (arith, length-drop (n * width) all) in
    let slots = before.slots ++ fixed_slot rest width ∷ [] in
    let count : suc n ≡ n + 1 = omega arith in
    let size : n * width + width ≡ suc n * width = omega arith in
    record {
      slots = slots;
      is =
          ap (λ (k : ℕ). spelled f k all) count
          ∙ put_last f n all (record { slots = before.slots; rest = rest }) (fixed_slot rest width) (drop width rest) before.is (fixed_read f width rest h room)
          ∙ ap (λ (r : List ℕ). Some (record { slots = slots; rest = r })) (drop-drop width (n * width) all ∙ ap (λ (k : ℕ). drop k all) size);
    }

pub fixed_listed : (f : PlainForm) (width rows : ℕ) (all : List ℕ) → AreFixed f width → f.lists ≡ 0 → rows * width ≡ length all → Listed f rows rows all
fixed_listed f width rows all h single e =
    let w = fixed_walked f width rows all h (omega arith) in
    let none : drop (rows * width) all ≡ [] = drop_all (rows * width) all (omega arith) in
    let is : spelled f rows all ≡ Some (record { slots = w.slots; rest = [] }) = w.is ∙ ap (λ (r : List ℕ). Some (record { slots = w.slots; rest = r })) none in
    record { slots = w.slots; is = is; rows_are = single_rows f.lists rows w.slots single (count_slots f rows all (record { slots = w.slots; rest = [] }) is) }

pub fixed_more : (f : PlainForm) (width rows : ℕ) (all : List ℕ) → AreFixed f width → f.lists ≡ 0 → rows * width < length all → More f rows all
fixed_more f width rows all h single lt =
    let w = fixed_walked f width rows all h (omega arith) in
    let rest = drop (rows * width) all in
    record {
      front = record { slots = w.slots; rest = rest };
      single = single;
      is = w.is;
      extra = λ e. let none = ap (length {A = ℕ}) e in omega (arith, length-drop (rows * width) all);
    }

some_width : (width rows n : ℕ) → n < rows * width → 0 < width
some_width zero rows n lt = absurd (omega arith)
some_width (suc w) rows n lt = omega arith

-- the bytes end in the value behind those that they have room for
pub fixed_stops : (f : PlainForm) (width rows : ℕ) (all : List ℕ) → AreFixed f width → f.lists ≡ 0 → length all < rows * width → StopsAt f rows (length all / width) all cut
fixed_stops f width rows all h single lt =
    let some = some_width width rows (length all) lt in
    let n = length all / width in
    let fits = div-mul-le_self (length all) width in
    let full : length all < n * width + width = lt-div-mul-add some in
    let rest = drop (n * width) all in
    let short : length rest < width = omega (arith, length-drop (n * width) all) in
    stops_single f rows n all rest cut single (div_below (length all) width rows some lt) (fixed_walked f width n all h fits) (fixed_cut f width rest h short)
