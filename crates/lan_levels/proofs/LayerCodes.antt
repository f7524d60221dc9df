-- Codes that fit their layers, and how many numbers they take.
use Rattle.std.proofs.Common.{◌≡◌, ℕ, ◌+◌, ◌*◌, ◌≤◌, ◌⊎◌, inl, inr, Bool, true, false, cond, List, [], ◌∷◌, length, map, All, refl, arith, length-append}
use Rattle.std.proofs.lemmas.List.Elements.{All-nil, All-cons}
use Rattle.lan_model.specs.declared.tree.Layer.{Layer}
use Rattle.lan_model.specs.declared.tree.Layer.TheVariants as layer
use lib.Dec.{ltb}
use Rattle.lan_levels.specs.declared.slot.State.{State}
use Rattle.lan_levels.specs.declared.slot.State.TheVariants as state
use Rattle.lan_levels.specs.SlotsOf.{lists_in}
use Rattle.lan_levels.specs.Codes.{layer_code, FitsCode, FitCodes, IsCode, code_states, states_from}

written_one : (l : Layer) → IsCode (layer_code l)
written_one (layer.Item true) = (omega arith, omega arith)
written_one (layer.Item false) = (omega arith, omega arith)
written_one (layer.Struct true m) = (omega arith, omega arith)
written_one (layer.Struct false m) = (omega arith, omega arith)
written_one (layer.List true) = (omega arith, omega arith)
written_one (layer.List false) = (omega arith, omega arith)

pub written_are : (ls : List Layer) → All IsCode (map layer_code ls)
written_are [] = All-nil IsCode
written_are (l ∷ ls) = All-cons IsCode (layer_code l) (map layer_code ls) (written_one l) (written_are ls)

fits_one : (l : Layer) → FitsCode (layer_code l) l
fits_one (layer.Item true) = inr refl
fits_one (layer.Item false) = inl refl
fits_one (layer.Struct true m) = inr refl
fits_one (layer.Struct false m) = inl refl
fits_one (layer.List true) = inr (inr (inr refl))
fits_one (layer.List false) = inr (inr (inl refl))

pub written_fit : (ls : List Layer) → FitCodes (map layer_code ls) ls
written_fit [] = tt
written_fit (l ∷ ls) = (fits_one l, written_fit ls)

one_of_two : (c : ℕ) → (c ≡ 1) ⊎ (c ≡ 3) → IsCode c
one_of_two c (inl h) = (omega arith, omega arith)
one_of_two c (inr h) = (omega arith, omega arith)

one_of_four : (c : ℕ) → (c ≡ 2) ⊎ ((c ≡ 4) ⊎ ((c ≡ 5) ⊎ (c ≡ 6))) → IsCode c
one_of_four c (inl h) = (omega arith, omega arith)
one_of_four c (inr (inl h)) = (omega arith, omega arith)
one_of_four c (inr (inr (inl h))) = (omega arith, omega arith)
one_of_four c (inr (inr (inr h))) = (omega arith, omega arith)

fitting_one : (c : ℕ) (l : Layer) → FitsCode c l → IsCode c
fitting_one c (layer.Item n) h = one_of_two c h
fitting_one c (layer.Struct n m) h = one_of_two c h
fitting_one c (layer.List n) h = one_of_four c h

pub fitting_are : (cs : List ℕ) (ls : List Layer) → FitCodes cs ls → All IsCode cs
fitting_are [] [] h = All-nil IsCode
fitting_are [] (l ∷ ls) h = All-nil IsCode
fitting_are (c ∷ cs) [] h = absurd h
fitting_are (c ∷ cs) (l ∷ ls) h = All-cons IsCode c cs (fitting_one c l h.0) (fitting_are cs ls h.1)

pub fitting_count : (cs : List ℕ) (ls : List Layer) → FitCodes cs ls → length cs ≡ length ls
fitting_count [] [] h = refl
fitting_count [] (l ∷ ls) h = absurd h
fitting_count (c ∷ cs) [] h = absurd h
fitting_count (c ∷ cs) (l ∷ ls) h = omega (arith, fitting_count cs ls h.1)

pub few_lists : (layers : List Layer) → lists_in layers ≤ length layers
few_lists [] = omega arith
few_lists (layer.Item n ∷ ls) = omega (arith, few_lists ls)
few_lists (layer.Struct n m ∷ ls) = omega (arith, few_lists ls)
few_lists (layer.List n ∷ ls) = omega (arith, few_lists ls)

two_at_most : (a b c : Bool) (x y : State) → length (cond a [] (cond b (x ∷ []) (cond c (y ∷ []) (x ∷ y ∷ [])))) ≤ 2
two_at_most true b c x y = omega arith
two_at_most false true c x y = omega arith
two_at_most false false true x y = omega arith
two_at_most false false false x y = omega arith

pub few_states : (codes : List ℕ) (k : ℕ) → length (states_from codes k) ≤ 2 * length codes
few_states [] k = omega arith
few_states (c ∷ cs) k =
    let here = two_at_most (ltb c 3) (ltb c 5) (ltb c 6) (state.Null k) (state.Empty k) in
    let later = few_states cs (k + 1) in
    omega (arith, length-append (code_states c k) (states_from cs (k + 1)))
