-- The numbers that codes give to states, layer by layer.
use Rattle.std.proofs.Common.{◌≡◌, ℕ, zero, suc, ◌+◌, ◌<◌, ◌≤◌, ◌-◌, ◌⊎◌, inl, inr, List, [], ◌∷◌, ◌++◌, Some, length, drop, get_or, slice_get, refl, ap, sym, ◌∙◌, arith}
use Rattle.std.proofs.lemmas.List.{drop_more, drop_all}
use Rattle.lan_levels.specs.declared.slot.State.{State}
use Rattle.lan_levels.specs.Codes.{code_states, states_from}
use Rattle.lan_levels.proofs.Chosen.{less_or_not}

get_front : (xs ys : List State) (n : ℕ) → n < length xs → slice_get (xs ++ ys) n ≡ slice_get xs n
get_front [] ys n lt = absurd (omega arith)
get_front (x ∷ xs) ys zero lt = refl
get_front (x ∷ xs) ys (suc n) lt = get_front xs ys n (omega arith)

get_back : (xs ys : List State) (n m : ℕ) → m ≡ length xs + n → slice_get (xs ++ ys) m ≡ slice_get ys n
get_back [] ys n m e = let same : m ≡ n = omega arith in ap (slice_get ys) same
get_back (x ∷ xs) ys n zero e = absurd (omega arith)
get_back (x ∷ xs) ys n (suc m) e = get_back xs ys n m (omega arith)

-- what is looked for is in no layer before `k`, whose numbers end before `count`
pub record Searched (codes : List ℕ) (state : State) (k count : ℕ) : Type 0 where
  pub few : count ≤ k + k
  pub rest : (n : ℕ) → slice_get (states_from (drop k codes) k) n ≡ slice_get (states_from codes 0) (count + n)
  pub before : (n : ℕ) → n < count → slice_get (states_from codes 0) n ≡ Some state → ⊥

next_layer : (codes : List ℕ) (k : ℕ) → k < length codes → states_from (drop k codes) k ≡ code_states (get_or codes k 0) k ++ states_from (drop (k + 1) codes) (k + 1)
next_layer codes k lt = ap (λ (cs : List ℕ). states_from cs k) (drop_more codes k 0 lt)

searched_before : (codes : List ℕ) (state : State) (k count t : ℕ) → k < length codes → Searched codes state k count → t ≡ length (code_states (get_or codes k 0) k)
    → ((n : ℕ) → slice_get (code_states (get_or codes k 0) k) n ≡ Some state → ⊥) → (n : ℕ) → n < count + t → (n < count) ⊎ (count ≤ n) → slice_get (states_from codes 0) n ≡ Some state → ⊥
searched_before codes state k count t lt h taken none n less (inl p) e = h.before n p e
searched_before codes state k count t lt h taken none n less (inr p) e =
    let here = code_states (get_or codes k 0) k in
    let m = n - count in
    let is : count + m ≡ n = omega arith in
    let whole : slice_get (states_from (drop k codes) k) m ≡ slice_get (states_from codes 0) n = h.rest m ∙ ap (slice_get (states_from codes 0)) is in
    let front : slice_get (states_from (drop k codes) k) m ≡ slice_get here m =
    ap (λ (xs : List State). slice_get xs m) (next_layer codes k lt) ∙ get_front here (states_from (drop (k + 1) codes) (k + 1)) m (omega arith) in
    none m (sym front ∙ whole ∙ e)

pub searched_more : (codes : List ℕ) (state : State) (k count t : ℕ) → k < length codes → Searched codes state k count → t ≤ 2 → t ≡ length (code_states (get_or codes k 0) k)
    → ((n : ℕ) → slice_get (code_states (get_or codes k 0) k) n ≡ Some state → ⊥) → Searched codes state (k + 1) (count + t)
searched_more codes state k count t lt h few taken none = record {
  few = let le = h.few in omega arith;
  rest = λ n.
      let here = code_states (get_or codes k 0) k in
      let more = states_from (drop (k + 1) codes) (k + 1) in
      let back : slice_get (here ++ more) (t + n) ≡ slice_get more n = get_back here more n (t + n) (omega arith) in
      let same : count + (t + n) ≡ count + t + n = omega arith in
      sym back ∙ ap (λ (xs : List State). slice_get xs (t + n)) (sym (next_layer codes k lt)) ∙ h.rest (t + n) ∙ ap (slice_get (states_from codes 0)) same;
  before = λ n less e. searched_before codes state k count t lt h taken none n less (less_or_not n count) e;
}

get_none : (n : ℕ) (s : State) → slice_get [] n ≡ Some s → ⊥
get_none n s h = cc

searched_past : (codes : List ℕ) (state : State) (k count : ℕ) → length codes ≤ k → Searched codes state k count → (n : ℕ) → (n < count) ⊎ (count ≤ n) → slice_get (states_from codes 0) n ≡ Some state → ⊥
searched_past codes state k count le h n (inl p) e = h.before n p e
searched_past codes state k count le h n (inr p) e =
    let m = n - count in
    let is : count + m ≡ n = omega arith in
    let none : states_from (drop k codes) k ≡ [] = ap (λ (cs : List ℕ). states_from cs k) (drop_all k codes le) in
    get_none m state (ap (λ (xs : List State). slice_get xs m) (sym none) ∙ h.rest m ∙ ap (slice_get (states_from codes 0)) is ∙ e)

-- it is in no layer
pub searched_all : (codes : List ℕ) (state : State) (k count : ℕ) → length codes ≤ k → Searched codes state k count → (n : ℕ) → slice_get (states_from codes 0) n ≡ Some state → ⊥
searched_all codes state k count le h n e = searched_past codes state k count le h n (less_or_not n count) e
