-- The sizes of a leaf's form.
use Rattle.std.proofs.Common.{◌≡◌, ℕ, ◌+◌, ◌-◌, ◌*◌, ◌^◌, ◌<◌, ◌≤◌, Bool, true, false, cond, List, [], ◌∷◌, length, refl, arith, length-append}
use Rattle.std.proofs.lemmas.Bool.{ltb-true}
use lib.Dec.{ltb}
use Rattle.lan_model.specs.declared.tree.Layer.{Layer}
use Rattle.lan_model.specs.declared.tree.Layer.TheVariants as layer
use Rattle.lan_levels.specs.declared.slot.State.{State}
use Rattle.lan_levels.specs.declared.slot.State.TheVariants as state
use Rattle.lan_levels.specs.Codes.{code_states, states_from, states_of}
use Rattle.lan_levels.specs.SlotsOf.{lists_in}
use Rattle.lan_levels.specs.declared.shape.ValueForm.{ValueForm}
use Rattle.lan_levels.specs.ZipForm.{PlainForm, digits, word_size, form_for}
use Rattle.lan_zip.proofs.Words.{word_room}

-- how many digits a number has, and that it has no more
pub record Digits (n d : ℕ) : Type 0 where
  pub room : n < 2 ^ d
  pub few : d ≤ 6

either_way : (b : Bool) (n x y : ℕ) → (b ≡ true → Digits n x) → (b ≡ false → Digits n y) → Digits n (cond b x y)
either_way true n x y f g = f refl
either_way false n x y f g = g refl

pub digits_are : (n : ℕ) → n < 64 → Digits n (digits n)
digits_are n lt =
    either_way (ltb n 1) n 0 _ (λ h. let k = ltb-true n 1 h in record { room = omega arith; few = omega arith })
    (λ _. either_way (ltb n 2) n 1 _ (λ h. let k = ltb-true n 2 h in record { room = omega arith; few = omega arith })
    (λ _. either_way (ltb n 4) n 2 _ (λ h. let k = ltb-true n 4 h in record { room = omega arith; few = omega arith })
    (λ _. either_way (ltb n 8) n 3 _ (λ h. let k = ltb-true n 8 h in record { room = omega arith; few = omega arith })
    (λ _. either_way (ltb n 16) n 4 _ (λ h. let k = ltb-true n 16 h in record { room = omega arith; few = omega arith })
    (λ _. either_way (ltb n 32) n 5 6 (λ h. let k = ltb-true n 32 h in record { room = omega arith; few = omega arith }) (λ _. record { room = omega arith; few = omega arith }))))))

-- a control word has at most two bytes, and room for its bits
record Word (bits size : ℕ) : Type 0 where
  few : size ≤ 2
  room : bits ≤ 16 → bits ≤ 8 * size

word_way : (b : Bool) (n x y : ℕ) → (b ≡ true → Word n x) → (b ≡ false → Word n y) → Word n (cond b x y)
word_way true n x y f g = f refl
word_way false n x y f g = g refl

word_is : (n : ℕ) → Word n (word_size n)
word_is n =
    word_way (ltb n 1) n 0 _ (λ h. let k = ltb-true n 1 h in record { few = omega arith; room = λ _. omega arith })
    (λ _. word_way (ltb n 9) n 1 2 (λ h. let k = ltb-true n 9 h in record { few = omega arith; room = λ _. omega arith }) (λ _. record { few = omega arith; room = λ le. omega arith }))

few_lists : (layers : List Layer) → lists_in layers ≤ length layers
few_lists [] = omega arith
few_lists (layer.Item n ∷ ls) = omega (arith, few_lists ls)
few_lists (layer.Struct n m ∷ ls) = omega (arith, few_lists ls)
few_lists (layer.List n ∷ ls) = omega (arith, few_lists ls)

two_at_most : (a b c : Bool) (x y : State) → length (cond a [] (cond b (x ∷ []) (cond c (y ∷ []) (x ∷ y ∷ [])))) ≤ 2
two_at_most true b c x y = omega arith
two_at_most false true c x y = omega arith
two_at_most false false true x y = omega arith
two_at_most false false false x y = omega arith

few_states : (codes : List ℕ) (k : ℕ) → length (states_from codes k) ≤ 2 * length codes
few_states [] k = omega arith
few_states (c ∷ cs) k =
    let here = two_at_most (ltb c 3) (ltb c 5) (ltb c 6) (state.Null k) (state.Empty k) in
    let later = few_states cs (k + 1) in
    omega (arith, length-append (code_states c k) (states_from cs (k + 1)))

-- what writing and reading need of a form
pub record Roomy (f : PlainForm) : Type 0 where
  pub word : f.word ≤ 2
  pub below : length f.states ≤ 2 ^ f.bits
  pub room : (rep def : ℕ) → rep ≤ f.lists → def < 2 ^ f.bits → rep * 2 ^ f.bits + def < 2 ^ (8 * f.word)

pub form_roomy : (codes : List ℕ) (layers : List Layer) (v : ValueForm) → length codes ≤ 16 → length layers ≤ 16 → Roomy (form_for codes layers v)
form_roomy codes layers v few short =
    let f = form_for codes layers v in
    let greatest = length (states_of codes) - 1 in
    let high = digits_are f.lists (omega (arith, few_lists layers)) in
    let low = digits_are greatest (omega (arith, few_states codes 0)) in
    let high_few = high.few in
    let low_few = low.few in
    let low_room = low.room in
    let size = word_is (digits f.lists + f.bits) in
    let wide = size.room (omega arith) in
    record {
      word = size.few;
      below = omega arith;
      room = λ rep def le lt. word_room (digits f.lists) f.bits f.word rep def f.lists (omega arith) high.room le lt;
    }
