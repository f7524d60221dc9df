-- What is read from the front is spelled there, and what is spelled there is read.
use Rattle.std.proofs.Common.{◌≡◌, ◌≢◌, ℕ, zero, suc, ◌+◌, ◌*◌, ◌%◌, ◌^◌, ◌<◌, ◌≤◌, Bool, true, false, cond, ltb, List, [], ◌∷◌, ◌++◌, length, get_or, Result, Ok, Err, refl, sym, ap, subst, ◌∙◌, arith, ◌⊎◌, inl, inr}
use Rattle.std.proofs.Math.Nat.{pow-suc}
use Rattle.std.proofs.lemmas.Bool.{ltb-false, ltb-true, le-ltb, lt-ltb}
use Rattle.lan_wire.proofs.Groups.{at_least_one}
use Rattle.lan_wire.specs.declared.item.WireKind.{WireKind}
use Rattle.lan_wire.specs.declared.item.WireKind.TheVariants.{TooLong}
use Rattle.lan_wire.specs.Reading.{◌>>=◌, varint_in}
use Rattle.lan_wire.specs.Spells.{IsGroups}

-- ---- steps that may fail

pub bind_ok : {A B : Type 0} (r : Result A WireKind) (f : A → Result B WireKind) (y : B) → (r >>= f) ≡ Ok y → (x : A) × (r ≡ Ok x) × (f x ≡ Ok y)
bind_ok (Ok x) f y e = (x, refl, e)
bind_ok (Err d) f y e = absurd cc

pub guard_ok : {A : Type 0} (b : Bool) (d : WireKind) (x y : A) → cond b (Err d) (Ok x) ≡ Ok y → (b ≡ false) × (x ≡ y)
guard_ok true d x y e = absurd cc
guard_ok false d x y e = (refl, cc)

pub chosen : {A : Type 0} (b : Bool) (x y z : A) → cond b x y ≡ z → ((b ≡ true) × (x ≡ z)) ⊎ ((b ≡ false) × (y ≡ z))
chosen true x y z e = inl (refl, e)
chosen false x y z e = inr (refl, e)

abbrev done : {A : Type 0} → A → Result A WireKind
done x = Ok x

pub ok_is : {A : Type 0} (x y : A) → done x ≡ done y → x ≡ y
ok_is x y e = cc

-- ---- bytes

pub not_nil : (bytes : List ℕ) → 0 < length bytes → bytes ≢ []
not_nil bytes h e = absurd (omega (arith, ap length e, h))

abbrev pub IsBytes : List ℕ → Type 0
IsBytes bytes = (i : ℕ) → get_or bytes i 0 < 256

pub IsBytes-rest : (b : ℕ) (bytes : List ℕ) → IsBytes (b ∷ bytes) → IsBytes bytes
IsBytes-rest b bytes h i = h (suc i)

pub IsBytes-back : (front rest : List ℕ) → IsBytes (front ++ rest) → IsBytes rest
IsBytes-back [] rest h = h
IsBytes-back (b ∷ front) rest h = IsBytes-back front rest (IsBytes-rest b (front ++ rest) h)

-- ---- numbers

pub record Takes (more : ℕ) (bytes : List ℕ) (n : ℕ) (rest : List ℕ) : Type 0 where
  pub front : List ℕ
  pub parts : bytes ≡ front ++ rest
  pub groups : IsGroups front n
  pub short : length front ≤ suc more
  pub below : n < 2 * 128 ^ more

-- one more byte before groups
pub more_groups : (b : ℕ) (front : List ℕ) (high : ℕ) → 128 ≤ b → b < 256 → IsGroups front high → IsGroups (b ∷ front) (b % 128 + 128 * high)
more_groups b [] high low up g = absurd g
more_groups b (c ∷ bs) high low up g = (low, up, (high, omega arith, g))

pub varint_takes : (more : ℕ) (bytes : List ℕ) (n : ℕ) (rest : List ℕ) → IsBytes bytes → varint_in more bytes ≡ Ok (n, rest) → Takes more bytes n rest
unfolding varint_in
varint_takes more [] n rest fits e = absurd cc
varint_takes zero (b ∷ bs) n rest fits e =
    let g = guard_ok (ltb 1 b) TooLong (b, bs) (n, rest) e in
    let small : b ≤ 1 = ltb-false _ _ g.0 in
    let n-is : b ≡ n = ap (λ (p : ℕ × List ℕ). p.0) g.1 in
    let rest-is : bs ≡ rest = ap (λ (p : ℕ × List ℕ). p.1) g.1 in
    record { front = b ∷ []; parts = ap (λ (t : List ℕ). b ∷ t) rest-is; groups = (omega arith, sym n-is); short = omega arith; below = omega arith }
varint_takes (suc more) (b ∷ bs) n rest fits e =
    elim (chosen (ltb b 128) (Ok (b, bs)) (varint_in more bs >>= λ high. Ok (b % 128 + 128 * high.0, high.1)) (Ok (n, rest)) e) [
      | inl w ↦
          let g = ok_is (b, bs) (n, rest) w.1 in
          let small : b < 128 = ltb-true _ _ w.0 in
          let n-is : b ≡ n = ap (λ (p : ℕ × List ℕ). p.0) g in
          let rest-is : bs ≡ rest = ap (λ (p : ℕ × List ℕ). p.1) g in
          let one : 1 ≤ 128 ^ more = at_least_one more in
          record { front = b ∷ []; parts = ap (λ (t : List ℕ). b ∷ t) rest-is; groups = (small, sym n-is); short = omega arith; below = omega (arith, pow-suc 128 more) }
      | inr w ↦
          let large : 128 ≤ b = ltb-false _ _ w.0 in
          let step = bind_ok (varint_in more bs) (λ high. Ok (b % 128 + 128 * high.0, high.1)) (n, rest) w.1 in
          let high = step.0 in
          let t = varint_takes more bs high.0 high.1 (IsBytes-rest b bs fits) step.1 in
          let g = ok_is (b % 128 + 128 * high.0, high.1) (n, rest) step.2 in
          let n-is : b % 128 + 128 * high.0 ≡ n = ap (λ (p : ℕ × List ℕ). p.0) g in
          let rest-is : high.1 ≡ rest = ap (λ (p : ℕ × List ℕ). p.1) g in
          record {
            front = b ∷ t.front;
            parts = ap (λ (x : List ℕ). b ∷ x) (t.parts ∙ ap (λ (x : List ℕ). t.front ++ x) rest-is);
            groups = subst (λ (x : ℕ). IsGroups (b ∷ t.front) x) n-is (more_groups b t.front high.0 large (fits 0) t.groups);
            short = omega (arith, t.short);
            below = omega (arith, pow-suc 128 more, t.below, n-is);
          }
    ]

pub varint_again : (more : ℕ) (front : List ℕ) (n : ℕ) (rest : List ℕ) → IsGroups front n → length front ≤ suc more → n < 2 * 128 ^ more → varint_in more (front ++ rest) ≡ Ok (n, rest)
unfolding varint_in
varint_again more [] n rest g short below = absurd g
varint_again zero (b ∷ []) n rest g short below =
    let small : ltb 1 b ≡ false = le-ltb _ _ (omega (arith, g.1)) in
    rw small (ap (λ (x : ℕ). Ok (x, rest)) (sym g.1))
varint_again (suc more) (b ∷ []) n rest g short below =
    rw (lt-ltb b 128 g.0) (ap (λ (x : ℕ). Ok (x, rest)) (sym g.1))
varint_again zero (b ∷ c ∷ bs) n rest g short below = absurd (omega (arith, short))
varint_again (suc more) (b ∷ c ∷ bs) n rest g short below =
    let large : ltb b 128 ≡ false = le-ltb _ _ g.0 in
    let high : ℕ = g.2.0 in
    let sum : n + 128 ≡ b + 128 * high = g.2.1 in
    let again = varint_again more (c ∷ bs) high rest g.2.2 (omega (arith, short)) (omega (arith, pow-suc 128 more, below, sum, g.0)) in
    let n-is : b % 128 + 128 * high ≡ n = omega (arith, sum, g.0, g.1) in
    rw (large, again) (ap (λ (x : ℕ). Ok (x, rest)) n-is)
