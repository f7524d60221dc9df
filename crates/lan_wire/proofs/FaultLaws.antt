-- Where reading fails, the fault stands.
use Rattle.std.proofs.Common.{◌≡◌, ◌≢◌, ℕ, zero, suc, ◌+◌, ◌*◌, ◌/◌, ◌%◌, ◌<◌, ◌≤◌, Bool, true, false, cond, ltb, eqb, List, [], ◌∷◌, length, take, drop, Result, Ok, Err, refl, ap, subst, arith, ◌⊎◌, inl, inr}
use Rattle.std.specs.Prelude.{◌||◌}
use Rattle.std.specs.Int.{w32, w64, from_le_bytes}
use Rattle.std.proofs.lemmas.Bool.{ltb-false, ltb-true, eqb-true}
use Rattle.std.proofs.lemmas.Bool.Decides.{nat_tests}
use Rattle.lan_wire.specs.declared.item.WireKind.{WireKind}
use Rattle.lan_wire.specs.declared.item.WireKind.TheVariants.{Cut, TooLong, BadType, BadNumber, WrongType, Twice, Range, NotText, Refused}
use Rattle.lan_wire.specs.declared.item.Body.{Body}
use Rattle.lan_wire.specs.declared.item.Body.TheVariants.{Num, Eight, Four, Part}
use Rattle.lan_wire.specs.Reading.{◌>>=◌, varint_in, varint_at, part_at, body_at, item_at, place_of}
use Rattle.lan_wire.specs.Faults.{IsCut, IsLong, BreaksVarint, Leads, BodyFault, BreaksItem}
use Rattle.lan_wire.proofs.FrontVarint.{chosen, IsBytes, IsBytes-back}
use Rattle.lan_wire.proofs.FrontItem.{number_takes, body_takes}

abbrev pub failed : {A : Type 0} → WireKind → Result A WireKind
failed k = Err k

pub err_is : {A : Type 0} (j k : WireKind) → failed {A = A} j ≡ failed {A = A} k → j ≡ k
err_is j k e = cc

pub ok_not_err : {A : Type 0} (x : A) (k : WireKind) → Ok x ≡ failed k → ⊥
ok_not_err x k e = absurd cc

bind_err : {A B : Type 0} (r : Result A WireKind) (f : A → Result B WireKind) (k : WireKind) → (r >>= f) ≡ failed k → (r ≡ failed k) ⊎ ((x : A) × (r ≡ Ok x) × (f x ≡ failed k))
bind_err (Ok x) f k e = inr (x, refl, e)
bind_err (Err d) f k e = inl cc

guard_err : {A : Type 0} (b : Bool) (d k : WireKind) (x : A) → cond b (failed d) (Ok x) ≡ failed k → (b ≡ true) × (d ≡ k)
guard_err true d k x e = (refl, err_is d k e)
guard_err false d k x e = absurd (ok_not_err x k e)

-- ---- varints

abbrev VarintFault : ℕ → WireKind → List ℕ → Type 0
VarintFault more Cut bytes = IsCut more bytes
VarintFault more TooLong bytes = IsLong more bytes
VarintFault more BadType bytes = ⊥
VarintFault more BadNumber bytes = ⊥
VarintFault more (WrongType n) bytes = ⊥
VarintFault more (Twice n) bytes = ⊥
VarintFault more (Range n) bytes = ⊥
VarintFault more (NotText n) bytes = ⊥
VarintFault more (Refused n) bytes = ⊥

behind_byte : (more b : ℕ) (bs : List ℕ) (k : WireKind) → 128 ≤ b → VarintFault more k bs → VarintFault (suc more) k (b ∷ bs)
behind_byte more b bs Cut large h = ((large, h.0), omega (arith, h.1))
behind_byte more b bs TooLong large h = (b ∷ h.0, h.1, h.2, ap (λ (t : List ℕ). b ∷ t) h.3, (large, h.4), ap suc h.5, h.6)
behind_byte more b bs BadType large h = h
behind_byte more b bs BadNumber large h = h
behind_byte more b bs (WrongType n) large h = h
behind_byte more b bs (Twice n) large h = h
behind_byte more b bs (Range n) large h = h
behind_byte more b bs (NotText n) large h = h
behind_byte more b bs (Refused n) large h = h

varint_err : (more : ℕ) (bytes : List ℕ) (k : WireKind) → varint_in more bytes ≡ failed k → VarintFault more k bytes
unfolding varint_in
varint_err more [] k e = subst (λ (j : WireKind). VarintFault more j []) (err_is {A = ℕ × List ℕ} Cut k e) (tt, omega arith)
varint_err zero (b ∷ bs) k e =
    let g = guard_err (ltb 1 b) TooLong k (b, bs) e in
    subst (λ (j : WireKind). VarintFault 0 j (b ∷ bs)) g.1 ([], b, bs, refl, tt, refl, ltb-true _ _ g.0)
varint_err (suc more) (b ∷ bs) k e =
    elim (chosen (ltb b 128) (Ok (b, bs)) (varint_in more bs >>= λ high. Ok (b % 128 + 128 * high.0, high.1)) (failed k) e) [
      | inl w ↦ absurd (ok_not_err (b, bs) k w.1)
      | inr w ↦ elim (bind_err (varint_in more bs) (λ high. Ok (b % 128 + 128 * high.0, high.1)) k w.1) [
        | inl v ↦ behind_byte more b bs k (ltb-false _ _ w.0) (varint_err more bs k v)
        | inr v ↦ absurd (ok_not_err (b % 128 + 128 * v.0.0, v.0.1) k v.2)
      ]
    ]

number_err : (bytes : List ℕ) (k : WireKind) → varint_at bytes ≡ failed k → VarintFault 9 k bytes
unfolding varint_at
number_err bytes k e = varint_err 9 bytes k e

-- what begins a varint and can't be read breaks it
pub breaks : (bytes : List ℕ) (k : WireKind) → bytes ≢ [] → varint_at bytes ≡ failed k → BreaksVarint k bytes
breaks bytes k full e = by k (number_err bytes k e) where
  by : (j : WireKind) → VarintFault 9 j bytes → BreaksVarint j bytes
  by Cut h = (full, h)
  by TooLong h = h
  by BadType h = h
  by BadNumber h = h
  by (WrongType n) h = h
  by (Twice n) h = h
  by (Range n) h = h
  by (NotText n) h = h
  by (Refused n) h = h

leads : (bytes : List ℕ) (n : ℕ) (rest : List ℕ) → IsBytes bytes → varint_at bytes ≡ Ok (n, rest) → Leads bytes n rest
leads bytes n rest fits e = let t = number_takes bytes n rest fits e in (t.front, t.parts, t.spelled)

-- ---- bodies

num_fault : (wire : ℕ) (bytes : List ℕ) (k : WireKind) → wire ≡ 0 → VarintFault 9 k bytes → BodyFault wire k bytes
num_fault wire bytes Cut w h = inl (w, h)
num_fault wire bytes TooLong w h = (inl w, h)
num_fault wire bytes BadType w h = absurd h
num_fault wire bytes BadNumber w h = h
num_fault wire bytes (WrongType n) w h = h
num_fault wire bytes (Twice n) w h = h
num_fault wire bytes (Range n) w h = h
num_fault wire bytes (NotText n) w h = h
num_fault wire bytes (Refused n) w h = h

len_fault : (wire : ℕ) (bytes : List ℕ) (k : WireKind) → wire ≡ 2 → VarintFault 9 k bytes → BodyFault wire k bytes
len_fault wire bytes Cut w h = inr (inr (inl (w, inl h)))
len_fault wire bytes TooLong w h = (inr w, h)
len_fault wire bytes BadType w h = absurd h
len_fault wire bytes BadNumber w h = h
len_fault wire bytes (WrongType n) w h = h
len_fault wire bytes (Twice n) w h = h
len_fault wire bytes (Range n) w h = h
len_fault wire bytes (NotText n) w h = h
len_fault wire bytes (Refused n) w h = h

part_err : (wire at : ℕ) (bytes : List ℕ) (k : WireKind) → IsBytes bytes → wire ≡ 2 → part_at at bytes ≡ failed k → BodyFault wire k bytes
unfolding part_at
part_err wire at bytes k fits w e =
    elim (bind_err (varint_at bytes) (λ len. cond (ltb (length len.1) len.0) (Err Cut) (Ok (Part (record { base = place_of at bytes len.1; bytes = take len.0 len.1 }), drop len.0 len.1))) k e) [
      | inl v ↦ len_fault wire bytes k w (number_err bytes k v)
      | inr v ↦
          let g = guard_err (ltb (length v.0.1) v.0.0) Cut k (Part (record { base = place_of at bytes v.0.1; bytes = take v.0.0 v.0.1 }), drop v.0.0 v.0.1) v.2 in
          subst (λ (j : WireKind). BodyFault wire j bytes) g.1 (inr (inr (inl (w, inr (v.0.0, v.0.1, leads bytes v.0.0 v.0.1 fits v.1, ltb-true _ _ g.0)))))
    ]

num_err : (wire : ℕ) (bytes : List ℕ) (k : WireKind) → wire ≡ 0 → (varint_at bytes >>= λ n. Ok (Num n.0, n.1)) ≡ failed {A = Body × List ℕ} k → BodyFault wire k bytes
num_err wire bytes k w e =
    elim (bind_err (varint_at bytes) (λ n. Ok (Num n.0, n.1)) k e) [
      | inl v ↦ num_fault wire bytes k w (number_err bytes k v)
      | inr v ↦ absurd (ok_not_err (Num v.0.0, v.0.1) k v.2)
    ]

other_type : (wire : ℕ) → wire < 8 → eqb wire 0 ≡ false → eqb wire 1 ≡ false → eqb wire 2 ≡ false → eqb wire 5 ≡ false → (wire ≡ 3) ⊎ (wire ≡ 4) ⊎ (wire ≡ 6) ⊎ (wire ≡ 7)
other_type wire small a b c d =
    elim (chosen (eqb wire 3) true false (eqb wire 3) (same (eqb wire 3))) [
      | inl h ↦ inl (eqb-true wire 3 h.0)
      | inr h ↦ elim (chosen (eqb wire 4) true false (eqb wire 4) (same (eqb wire 4))) [
        | inl i ↦ inr (inl (eqb-true wire 4 i.0))
        | inr i ↦ elim (chosen (eqb wire 6) true false (eqb wire 6) (same (eqb wire 6))) [
          | inl j ↦ inr (inr (inl (eqb-true wire 6 j.0)))
          | inr j ↦ let last : wire ≡ 7 = left_over wire small a b c d h.0 i.0 j.0 in inr (inr (inr last))
        ]
      ]
    ] where
      same : (b : Bool) → cond b true false ≡ b
      same true = refl
      same false = refl

      left_over : (w : ℕ) → w < 8 → eqb w 0 ≡ false → eqb w 1 ≡ false → eqb w 2 ≡ false → eqb w 5 ≡ false → eqb w 3 ≡ false → eqb w 4 ≡ false → eqb w 6 ≡ false → w ≡ 7
      left_over w small a b c d h i j = grind (arith, nat_tests)

body_err : (wire at : ℕ) (bytes : List ℕ) (k : WireKind) → IsBytes bytes → wire < 8 → body_at wire at bytes ≡ failed k → BodyFault wire k bytes
unfolding body_at
body_err wire at bytes k fits small e =
    elim (chosen (eqb wire 0) _ _ (failed k) e) [
      | inl w ↦ num_err wire bytes k (eqb-true wire 0 w.0) w.1
      | inr w ↦ elim (chosen (eqb wire 1) _ _ (failed k) w.1) [
        | inl v ↦
            let g = guard_err (ltb (length bytes) 8) Cut k (Eight (from_le_bytes w64 (take 8 bytes)), drop 8 bytes) v.1 in
            subst (λ (j : WireKind). BodyFault wire j bytes) g.1 (inr (inl (eqb-true wire 1 v.0, ltb-true _ _ g.0)))
        | inr v ↦ elim (chosen (eqb wire 2) _ _ (failed k) v.1) [
          | inl u ↦ part_err wire at bytes k fits (eqb-true wire 2 u.0) u.1
          | inr u ↦ elim (chosen (eqb wire 5) _ _ (failed k) u.1) [
            | inl t ↦
                let g = guard_err (ltb (length bytes) 4) Cut k (Four (from_le_bytes w32 (take 4 bytes)), drop 4 bytes) t.1 in
                subst (λ (j : WireKind). BodyFault wire j bytes) g.1 (inr (inr (inr (eqb-true wire 5 t.0, ltb-true _ _ g.0))))
            | inr t ↦ subst (λ (j : WireKind). BodyFault wire j bytes) (err_is {A = Body × List ℕ} BadType k t.1) (other_type wire small w.0 v.0 u.0 t.0)
          ]
        ]
      ]
    ]

-- ---- items

of_key : (bytes : List ℕ) (k : WireKind) → BreaksVarint k bytes → BreaksItem k bytes
of_key bytes Cut h = inl h
of_key bytes TooLong h = inl h
of_key bytes BadType h = absurd h
of_key bytes BadNumber h = absurd h
of_key bytes (WrongType n) h = h
of_key bytes (Twice n) h = h
of_key bytes (Range n) h = h
of_key bytes (NotText n) h = h
of_key bytes (Refused n) h = h

of_body : (bytes : List ℕ) (k : WireKind) (key : ℕ) (rest : List ℕ) → Leads bytes key rest → BodyFault (key % 8) k rest → BreaksItem k bytes
of_body bytes Cut key rest l h = inr (key, rest, l, h)
of_body bytes TooLong key rest l h = inr (key, rest, l, h)
of_body bytes BadType key rest l h = (key, rest, l, h)
of_body bytes BadNumber key rest l h = absurd h
of_body bytes (WrongType n) key rest l h = h
of_body bytes (Twice n) key rest l h = h
of_body bytes (Range n) key rest l h = h
of_body bytes (NotText n) key rest l h = h
of_body bytes (Refused n) key rest l h = h

out_of_range : (n : ℕ) → (eqb n 0 || ltb 536870911 n) ≡ true → (n ≡ 0) ⊎ (536870911 < n)
out_of_range n h = by (eqb n 0) refl where
  by : (b : Bool) → eqb n 0 ≡ b → (n ≡ 0) ⊎ (536870911 < n)
  by true e = inl (eqb-true n 0 e)
  by false e = inr (grind (arith, nat_tests, e, h))

pub stands : (at : ℕ) (bytes : List ℕ) (k : WireKind) → IsBytes bytes → bytes ≢ [] → item_at at bytes ≡ failed k → BreaksItem k bytes
unfolding item_at
stands at bytes k fits full e =
    elim (bind_err (varint_at bytes) (λ key. body_at (key.0 % 8) (place_of at bytes key.1) key.1 >>= λ body. cond (eqb (key.0 / 8) 0 || ltb 536870911 (key.0 / 8)) (Err BadNumber) (Ok (record { number = key.0 / 8; at = at; body = body.0 }, body.1))) k e) [
      | inl v ↦ of_key bytes k (breaks bytes k full v)
      | inr v ↦
          let key = v.0.0 in
          let rest = v.0.1 in
          let l = leads bytes key rest fits v.1 in
          let rest_fits : IsBytes rest = IsBytes-back l.0 rest (subst IsBytes l.1 fits) in
          elim (bind_err (body_at (key % 8) (place_of at bytes rest) rest) (λ body. cond (eqb (key / 8) 0 || ltb 536870911 (key / 8)) (Err BadNumber) (Ok (record { number = key / 8; at = at; body = body.0 }, body.1))) k v.2) [
            | inl u ↦ of_body bytes k key rest l (body_err (key % 8) (place_of at bytes rest) rest k rest_fits (omega arith) u)
            | inr u ↦
                let g = guard_err (eqb (key / 8) 0 || ltb 536870911 (key / 8)) BadNumber k (record { number = key / 8; at = at; body = u.0.0 }, u.0.1) u.2 in
                let b = body_takes (key % 8) (place_of at bytes rest) rest u.0 rest_fits u.1 in
                subst (λ (j : WireKind). BreaksItem j bytes) g.1 (key, rest, l, ((place_of at bytes rest, u.0.0, b.front, u.0.1, b.parts, b.is_wire, b.spelled), out_of_range (key / 8) g.0))
          ]
    ]
