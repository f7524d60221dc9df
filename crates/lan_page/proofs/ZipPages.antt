-- The buffers of a full-zip page, and the pages that are built.
use Rattle.std.proofs.Common.{◌≡◌, ◌==◌, ◌&&◌, ℕ, zero, suc, ◌+◌, ◌-◌, ◌<◌, ◌≤◌, Bool, true, false, cond, List, [], ◌∷◌, ◌++◌, Option, Some, None, length, take, drop, slice_get, map, refl, ap, ap₂, sym, ◌∙◌, arith, append_assoc, append-nil}
use Rattle.std.specs.List.{concat, list_all}
use Rattle.std.proofs.lemmas.Bool.{eq-eqb, ne_eqb}
use Rattle.std.proofs.lemmas.List.{drop_all}
use lib.Dec.{ltb}
use Rattle.lan_bytes.specs.Numbers.{low_first}
use Rattle.lan_model.specs.Leaves.{PlainLeaf}
use Rattle.lan_levels.specs.declared.shape.ValueKind.{ValueKind}
use Rattle.lan_levels.specs.declared.slot.State.{State}
use Rattle.lan_levels.specs.declared.slot.State.TheVariants as state
use Rattle.lan_levels.specs.Codes.{layer_code, states_from, states_of}
use Rattle.lan_levels.specs.PagesWritten.{may_be_all, same_slot, value_of_all, constant_of, cut_pages}
use Rattle.lan_levels.specs.PlainSlots.{PlainSlot}
use Rattle.lan_levels.specs.SlotsOf.{lists_in}
use Rattle.lan_levels.specs.ZipBuffers.{same_state, state_number, zip_part, zip_content, zip_buffers}
use Rattle.lan_levels.specs.ZipForm.{PlainForm, kind_of, leaf_form}
use Rattle.lan_levels.specs.ZipSlots.{starts}
use Rattle.lan_levels.specs.ZipWritten.{slot_bytes, PartsAre, row_starts, is_indexed, ArePage}
use Rattle.lan_meta.specs.declared.page.BuiltPage.{BuiltPage}
use Rattle.lan_meta.specs.declared.page.Layout.TheVariants.{Constant, Zip}
use Rattle.lan_meta.specs.ColumnWritten.{page_by, page_written}
use Rattle.lan_page.proofs.PageCuts.{range, drop_at_slot}

-- ---- each state has one number

abbrev NotIn : State → List State → Type 0
NotIn s [] = Unit {0}
NotIn s (t ∷ ts) = (same_state s t ≡ false) × NotIn s ts

abbrev Distinct : List State → Type 0
Distinct [] = Unit {0}
Distinct (s ∷ ss) = NotIn s ss × Distinct ss

abbrev IsFrom : ℕ → State → Type 0
IsFrom k state.Here = ⊥
IsFrom k (state.Null j) = k ≤ j
IsFrom k (state.Empty j) = k ≤ j

abbrev AllFrom : ℕ → List State → Type 0
AllFrom k [] = Unit {0}
AllFrom k (s ∷ ss) = IsFrom k s × AllFrom k ss

same_self : (s : State) → same_state s s ≡ true
same_self state.Here = refl
same_self (state.Null k) = eq-eqb k k refl
same_self (state.Empty k) = eq-eqb k k refl

apart_at : (s : State) (ss : List State) (n : ℕ) (t : State) → NotIn s ss → slice_get ss n ≡ Some t → same_state s t ≡ false
apart_at s [] n t h e = absurd (cc)
apart_at s (x ∷ ss) zero t h e = let same : x ≡ t = cc in ap (same_state s) (sym same) ∙ h.0
apart_at s (x ∷ ss) (suc n) t h e = apart_at s ss n t h.1 e

first_number : (ss : List State) (n : ℕ) (s : State) → Distinct ss → slice_get ss n ≡ Some s → state_number ss s ≡ n
first_number [] n s d e = absurd (cc)
first_number (x ∷ ss) zero s d e = let same : x ≡ s = cc in ap (λ (b : Bool). let m : ℕ = cond b 0 (state_number ss s + 1) in m) (ap (λ (y : State). same_state y s) same ∙ same_self s)
first_number (x ∷ ss) (suc n) s d e =
    let later = first_number ss n s d.1 e in
    let no = ap (λ (b : Bool). let m : ℕ = cond b 0 (state_number ss s + 1) in m) (apart_at x ss n s d.0 e) in
    omega arith

here_apart : (ss : List State) (k : ℕ) → AllFrom k ss → NotIn state.Here ss
here_apart [] k h = tt
here_apart (state.Here ∷ ss) k h = absurd h.0
here_apart (state.Null j ∷ ss) k h = (refl, here_apart ss k h.1)
here_apart (state.Empty j ∷ ss) k h = (refl, here_apart ss k h.1)

below : (k j : ℕ) → k + 1 ≤ j → (k == j) ≡ false
below k j le = ne_eqb k j (λ e. omega (arith, e))

null_apart : (ss : List State) (k : ℕ) → AllFrom (k + 1) ss → NotIn (state.Null k) ss
null_apart [] k h = tt
null_apart (state.Here ∷ ss) k h = absurd h.0
null_apart (state.Null j ∷ ss) k h = (below k j h.0, null_apart ss k h.1)
null_apart (state.Empty j ∷ ss) k h = (refl, null_apart ss k h.1)

empty_apart : (ss : List State) (k : ℕ) → AllFrom (k + 1) ss → NotIn (state.Empty k) ss
empty_apart [] k h = tt
empty_apart (state.Here ∷ ss) k h = absurd h.0
empty_apart (state.Null j ∷ ss) k h = (refl, empty_apart ss k h.1)
empty_apart (state.Empty j ∷ ss) k h = (below k j h.0, empty_apart ss k h.1)

from_less : (ss : List State) (k : ℕ) → AllFrom (k + 1) ss → AllFrom k ss
from_less [] k h = tt
from_less (state.Here ∷ ss) k h = absurd h.0
from_less (state.Null j ∷ ss) k h = (let le = h.0 in let l : k ≤ j = omega arith in l, from_less ss k h.1)
from_less (state.Empty j ∷ ss) k h = (let le = h.0 in let l : k ≤ j = omega arith in l, from_less ss k h.1)

record Layered (k : ℕ) (ss : List State) : Type 0 where
  distinct : Distinct ss
  from : AllFrom k ss

some_codes : (a b c : Bool) (k : ℕ) (ss : List State) → Layered (k + 1) ss → Layered k (cond a [] (cond b (state.Null k ∷ []) (cond c (state.Empty k ∷ []) (state.Null k ∷ state.Empty k ∷ []))) ++ ss)
some_codes true b c k ss h = record { distinct = h.distinct; from = from_less ss k h.from }
some_codes false true c k ss h = record { distinct = (null_apart ss k h.from, h.distinct); from = (let l : k ≤ k = omega arith in l, from_less ss k h.from) }
some_codes false false true k ss h = record { distinct = (empty_apart ss k h.from, h.distinct); from = (let l : k ≤ k = omega arith in l, from_less ss k h.from) }
some_codes false false false k ss h = record {
  distinct = ((refl, null_apart ss k h.from), (empty_apart ss k h.from, h.distinct));
  from = (let l : k ≤ k = omega arith in l, (let l : k ≤ k = omega arith in l, from_less ss k h.from));
}

layered : (codes : List ℕ) (k : ℕ) → Layered k (states_from codes k)
layered [] k = record { distinct = tt; from = tt }
layered (c ∷ codes) k = some_codes (ltb c 3) (ltb c 5) (ltb c 6) k (states_from codes (k + 1)) (layered codes (k + 1))

states_distinct : (codes : List ℕ) → Distinct (states_of codes)
states_distinct codes = let l = layered codes 0 in (here_apart (states_from codes 0) 0 l.from, l.distinct)

-- ---- the buffers of a full-zip page are those of its slots

parts_are : (f : PlainForm) (ss : List PlainSlot) (ps : List (List ℕ)) → Distinct f.states → PartsAre f ss ps → ps ≡ map (zip_part f) ss
parts_are f [] [] d h = refl
parts_are f [] (p ∷ ps) d h = absurd h
parts_are f (s ∷ ss) [] d h = absurd h
parts_are f (s ∷ ss) (p ∷ ps) d h =
    let number = first_number f.states h.0.def s.state d h.0.numbered in
    ap₂ (λ (x : List ℕ) (xs : List (List ℕ)). x ∷ xs) (h.0.is ∙ ap (λ (n : ℕ). slot_bytes f n s) (sym number)) (parts_are f ss ps d h.1)

page_is : (f : PlainForm) (slots : List PlainSlot) (buffers : List (List ℕ)) → Distinct f.states → ArePage f slots buffers → buffers ≡ zip_buffers f slots
page_is f slots buffers d a =
    let parts = parts_are f slots a.gathered.parts d a.gathered.are in
    let content : a.content ≡ zip_content f slots = a.gathered.whole ∙ ap concat parts in
    let begun : a.starts ≡ row_starts f.lists 0 slots (map (zip_part f) slots) = a.gathered.begin_at ∙ ap (row_starts f.lists 0 slots) parts in
    a.are ∙ ap₂ (λ (all at : List ℕ). all ∷ cond (is_indexed f) ((at ++ low_first 8 (length all)) ∷ []) []) content begun

pub buffers_are : (leaf : PlainLeaf) (slots : List PlainSlot) (buffers : List (List ℕ)) → ArePage (leaf_form leaf) slots buffers → buffers ≡ zip_buffers (leaf_form leaf) slots
buffers_are leaf slots buffers a = page_is (leaf_form leaf) slots buffers (states_distinct (map layer_code leaf.layers)) a

-- ---- what all slots of a page have

ranged_first : (xs : List PlainSlot) (from to : ℕ) (s : PlainSlot) → from < to → slice_get xs from ≡ Some s → range xs from to ≡ s ∷ range xs (from + 1) to
ranged_first xs from to s lt e =
    let count : to - from ≡ suc (to - (from + 1)) = omega arith in
    ap₂ (λ (n : ℕ) (ys : List PlainSlot). take n ys) count (drop_at_slot xs from s e)

constant_test : (f : PlainForm) (s : PlainSlot) (rest : List PlainSlot) → constant_of f (s ∷ rest) ≡ cond (f.lists == 0 && may_be_all s.state s.value && list_all (same_slot s) rest) (Some (value_of_all s.state s.value)) None
unfolding constant_of
constant_test f s rest = refl

pub constant_is : (f : PlainForm) (xs : List PlainSlot) (from to : ℕ) (s : PlainSlot) (lists : ℕ) (b : Bool) → from < to → slice_get xs from ≡ Some s → lists ≡ f.lists
    → b ≡ ((lists == 0) && may_be_all s.state s.value && list_all (same_slot s) (range xs (from + 1) to)) → constant_of f (range xs from to) ≡ cond b (Some (value_of_all s.state s.value)) None
constant_is f xs from to s lists b lt e l t =
    ap (constant_of f) (ranged_first xs from to s lt e)
    ∙ constant_test f s (range xs (from + 1) to)
    ∙ ap (λ (c : Bool). let o : Option (Option (List ℕ)) = cond c (Some (value_of_all s.state s.value)) None in o) (sym (t ∙ ap (λ (n : ℕ). (n == 0) && may_be_all s.state s.value && list_all (same_slot s) (range xs (from + 1) to)) l))

pub constant_by : (f : PlainForm) (xs : List PlainSlot) (from to : ℕ) (s : PlainSlot) (lists : ℕ) (b c : Bool) → from < to → slice_get xs from ≡ Some s → lists ≡ f.lists
    → b ≡ ((lists == 0) && may_be_all s.state s.value && list_all (same_slot s) (range xs (from + 1) to)) → b ≡ c → cond c (Some (value_of_all s.state s.value)) None ≡ constant_of f (range xs from to)
constant_by f xs from to s lists b c lt e l t same =
    sym (constant_is f xs from to s lists b lt e l t ∙ ap (λ (d : Bool). let o : Option (Option (List ℕ)) = cond d (Some (value_of_all s.state s.value)) None in o) same)

pub constant_page : (leaf : PlainLeaf) (slots : List PlainSlot) (value : Option (List ℕ)) (rows count : ℕ) (codes : List ℕ) (buffers : List (List ℕ)) → rows ≡ starts (lists_in leaf.layers) slots → codes ≡ map layer_code leaf.layers → count ≡ length slots → buffers ≡ []
    → constant_of (leaf_form leaf) slots ≡ Some value → ◌≡◌ {A = BuiltPage} (record { rows = rows; layout = Constant codes count value; buffers = buffers }) (page_written leaf slots)
constant_page leaf slots value rows count codes buffers a b d e h = (λ i. record { rows = a i; layout = Constant (b i) (d i) value; buffers = e i }) ∙ ap (page_by leaf slots) (sym h)

pub zip_page : (leaf : PlainLeaf) (slots : List PlainSlot) (rows count : ℕ) (codes : List ℕ) (values : ValueKind) (buffers : List (List ℕ)) → rows ≡ starts (lists_in leaf.layers) slots → codes ≡ map layer_code leaf.layers → count ≡ length slots → values ≡ kind_of leaf.ty
    → ArePage (leaf_form leaf) slots buffers → constant_of (leaf_form leaf) slots ≡ None → ◌≡◌ {A = BuiltPage} (record { rows = rows; layout = Zip codes count values; buffers = buffers }) (page_written leaf slots)
zip_page leaf slots rows count codes values buffers a b d v e h =
    let are = buffers_are leaf slots buffers e in
    (λ i. record { rows = a i; layout = Zip (b i) (d i) (v i); buffers = are i }) ∙ ap (page_by leaf slots) (sym h)

-- ---- one page more

pub built_more : (g : List PlainSlot → BuiltPage) (all pages now : List BuiltPage) (page : BuiltPage) (cuts : List (List PlainSlot)) (slots : List PlainSlot) (rest : List (List PlainSlot)) → all ≡ pages ++ map g cuts → cuts ≡ slots ∷ rest → page ≡ g slots → now ≡ pages ++ page ∷ []
    → all ≡ now ++ map g rest
built_more g all pages now page cuts slots rest a c p n =
    a ∙ ap (λ (x : List (List PlainSlot)). pages ++ map g x) c ∙ ap (λ (x : BuiltPage). pages ++ x ∷ map g rest) (sym p) ∙ sym (append_assoc pages (page ∷ []) (map g rest)) ∙ ap (λ (x : List BuiltPage). x ++ map g rest) (sym n)

pub built_all : (g : List PlainSlot → BuiltPage) (f : PlainForm) (all pages : List BuiltPage) (xs : List PlainSlot) (from : ℕ) → length xs ≤ from → all ≡ pages ++ map g (cut_pages f (drop from xs)) → pages ≡ all
built_all g f all pages xs from le a =
    sym (a ∙ ap (λ (ys : List PlainSlot). pages ++ map g (cut_pages f ys)) (drop_all from xs le) ∙ append-nil pages)
