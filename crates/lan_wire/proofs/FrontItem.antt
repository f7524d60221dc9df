-- An item that is read from the front is spelled there, and one that is spelled there is read.
use Rattle.std.proofs.Common.{◌≡◌, ℕ, ◌+◌, ◌*◌, ◌/◌, ◌%◌, ◌^◌, ◌<◌, ◌≤◌, true, false, cond, ltb, eqb, List, ◌++◌, length, take, drop, Ok, Err, refl, sym, ap, subst, ◌∙◌, append_assoc, length-append, arith, inl, inr}
use Rattle.std.specs.Prelude.{◌||◌}
use Rattle.std.specs.Int.{w32, w64, from_le_bytes}
use Rattle.std.proofs.lemmas.Bool.{ltb-false, le-ltb, eqb-true}
use Rattle.std.proofs.lemmas.List.{take_at, drop_at, take-append-drop, length-take}
use Rattle.std.proofs.lemmas.Bool.Decides.{nat_tests}
use Rattle.lan_wire.specs.declared.item.WireKind.TheVariants.{Cut, BadType, BadNumber}
use Rattle.lan_wire.specs.declared.item.Body.{Body}
use Rattle.lan_wire.specs.declared.item.Body.TheVariants.{Num, Eight, Four, Part}
use Rattle.lan_wire.specs.declared.item.Item.{Item}
use Rattle.lan_wire.specs.Reading.{◌>>=◌, varint_at, part_at, body_at, item_at, place_of}
use Rattle.lan_wire.specs.Spells.{IsVarint, wire_of, SpellsBody, Spells, Begins}
use Rattle.lan_wire.proofs.FrontVarint.{bind_ok, guard_ok, chosen, ok_is, IsBytes, IsBytes-back, varint_takes, varint_again}

-- ---- a varint

pub record Fronts (bytes : List ℕ) (n : ℕ) (rest : List ℕ) : Type 0 where
  pub front : List ℕ
  pub parts : bytes ≡ front ++ rest
  pub spelled : IsVarint front n

pub number_takes : (bytes : List ℕ) (n : ℕ) (rest : List ℕ) → IsBytes bytes → varint_at bytes ≡ Ok (n, rest) → Fronts bytes n rest
unfolding varint_at
number_takes bytes n rest fits e =
    let t = varint_takes 9 bytes n rest fits e in
    record { front = t.front; parts = t.parts; spelled = record { groups = t.groups; short = omega (arith, t.short); fits = omega (arith, t.below) } }

pub number_again : (front : List ℕ) (n : ℕ) (rest : List ℕ) → IsVarint front n → varint_at (front ++ rest) ≡ Ok (n, rest)
unfolding varint_at
number_again front n rest v = varint_again 9 front n rest v.groups (omega (arith, v.short)) (omega (arith, v.fits))

pub place_front : (at : ℕ) (bytes front rest : List ℕ) → bytes ≡ front ++ rest → place_of at bytes rest ≡ at + length front
place_front at bytes front rest e = omega (arith, ap length e, length-append front rest)

-- ---- a body

pub record BodyFronts (wire at : ℕ) (bytes : List ℕ) (x : Body × List ℕ) : Type 0 where
  pub front : List ℕ
  pub parts : bytes ≡ front ++ x.1
  pub is_wire : wire ≡ wire_of x.0
  pub spelled : SpellsBody at front x.0

part_takes : (at : ℕ) (bytes : List ℕ) (x : Body × List ℕ) → IsBytes bytes → part_at at bytes ≡ Ok x → BodyFronts 2 at bytes x
unfolding part_at
part_takes at bytes x fits e =
    let step = bind_ok (varint_at bytes) (λ len. cond (ltb (length len.1) len.0) (Err Cut) (Ok (Part (record { base = place_of at bytes len.1; bytes = take len.0 len.1 }), drop len.0 len.1))) x e in
    let len = step.0.0 in
    let after = step.0.1 in
    let t = number_takes bytes len after fits step.1 in
    let g = guard_ok (ltb (length after) len) Cut (Part (record { base = place_of at bytes after; bytes = take len after }), drop len after) x step.2 in
    let room : len ≤ length after = ltb-false _ _ g.0 in
    let size : length (take len after) ≡ len = omega (arith, length-take len after) in
    let whole : bytes ≡ (t.front ++ take len after) ++ drop len after = t.parts ∙ ap (λ (r : List ℕ). t.front ++ r) (sym (take-append-drop len after)) ∙ sym (append_assoc t.front (take len after) (drop len after)) in
    subst (BodyFronts 2 at bytes) g.1 (record {
      front = t.front ++ take len after;
      parts = whole;
      is_wire = refl;
      spelled = (t.front, subst (IsVarint t.front) (sym size) t.spelled, place_front at bytes t.front after t.parts, refl);
    })

eight_takes : (at : ℕ) (bytes : List ℕ) (x : Body × List ℕ) → cond (ltb (length bytes) 8) (Err Cut) (Ok (Eight (from_le_bytes w64 (take 8 bytes)), drop 8 bytes)) ≡ Ok x → BodyFronts 1 at bytes x
eight_takes at bytes x e =
    let g = guard_ok (ltb (length bytes) 8) Cut (Eight (from_le_bytes w64 (take 8 bytes)), drop 8 bytes) x e in
    let room : 8 ≤ length bytes = ltb-false _ _ g.0 in
    subst (BodyFronts 1 at bytes) g.1 (record { front = take 8 bytes; parts = sym (take-append-drop 8 bytes); is_wire = refl; spelled = (omega (arith, length-take 8 bytes), refl) })

four_takes : (at : ℕ) (bytes : List ℕ) (x : Body × List ℕ) → cond (ltb (length bytes) 4) (Err Cut) (Ok (Four (from_le_bytes w32 (take 4 bytes)), drop 4 bytes)) ≡ Ok x → BodyFronts 5 at bytes x
four_takes at bytes x e =
    let g = guard_ok (ltb (length bytes) 4) Cut (Four (from_le_bytes w32 (take 4 bytes)), drop 4 bytes) x e in
    let room : 4 ≤ length bytes = ltb-false _ _ g.0 in
    subst (BodyFronts 5 at bytes) g.1 (record { front = take 4 bytes; parts = sym (take-append-drop 4 bytes); is_wire = refl; spelled = (omega (arith, length-take 4 bytes), refl) })

num_takes : (at : ℕ) (bytes : List ℕ) (x : Body × List ℕ) → IsBytes bytes → (varint_at bytes >>= λ n. Ok (Num n.0, n.1)) ≡ Ok x → BodyFronts 0 at bytes x
num_takes at bytes x fits e =
    let step = bind_ok (varint_at bytes) (λ n. Ok (Num n.0, n.1)) x e in
    let t = number_takes bytes step.0.0 step.0.1 fits step.1 in
    subst (BodyFronts 0 at bytes) (ok_is (Num step.0.0, step.0.1) x step.2) (record { front = t.front; parts = t.parts; is_wire = refl; spelled = t.spelled })

rewired : (wire other at : ℕ) (bytes : List ℕ) (x : Body × List ℕ) → eqb wire other ≡ true → BodyFronts other at bytes x → BodyFronts wire at bytes x
rewired wire other at bytes x e b = subst (λ (w : ℕ). BodyFronts w at bytes x) (sym (eqb-true wire other e)) b

pub body_takes : (wire at : ℕ) (bytes : List ℕ) (x : Body × List ℕ) → IsBytes bytes → body_at wire at bytes ≡ Ok x → BodyFronts wire at bytes x
unfolding body_at
body_takes wire at bytes x fits e =
    elim (chosen (eqb wire 0) _ _ (Ok x) e) [
      | inl w ↦ rewired wire 0 at bytes x w.0 (num_takes at bytes x fits w.1)
      | inr w ↦ elim (chosen (eqb wire 1) _ _ (Ok x) w.1) [
        | inl v ↦ rewired wire 1 at bytes x v.0 (eight_takes at bytes x v.1)
        | inr v ↦ elim (chosen (eqb wire 2) _ _ (Ok x) v.1) [
          | inl u ↦ rewired wire 2 at bytes x u.0 (part_takes at bytes x fits u.1)
          | inr u ↦ elim (chosen (eqb wire 5) _ _ (Ok x) u.1) [
            | inl t ↦ rewired wire 5 at bytes x t.0 (four_takes at bytes x t.1)
            | inr t ↦ let h : Err BadType ≡ Ok x = t.1 in absurd cc
          ]
        ]
      ]
    ]

part_from : (at : ℕ) (bytes after : List ℕ) (len : ℕ) → varint_at bytes ≡ Ok (len, after) → len ≤ length after → part_at at bytes ≡ Ok (Part (record { base = place_of at bytes after; bytes = take len after }), drop len after)
unfolding part_at
part_from at bytes after len h room = rw (h, le-ltb (length after) len room) refl

pub body_again : (at : ℕ) (front rest : List ℕ) (body : Body) → SpellsBody at front body → body_at (wire_of body) at (front ++ rest) ≡ Ok (body, rest)
unfolding body_at
body_again at front rest (Num n) h = rw (number_again front n rest h) refl
body_again at front rest (Eight n) h =
    let long : ltb (length (front ++ rest)) 8 ≡ false = le-ltb _ _ (omega (arith, length-append front rest, h.0)) in
    rw (long, take_at front rest 8 h.0, drop_at front rest 8 h.0, ← h.1) refl
body_again at front rest (Four n) h =
    let long : ltb (length (front ++ rest)) 4 ≡ false = le-ltb _ _ (omega (arith, length-append front rest, h.0)) in
    rw (long, take_at front rest 4 h.0, drop_at front rest 4 h.0, ← h.1) refl
body_again at front rest (Part part) h =
    let len : List ℕ = h.0 in
    let whole : front ++ rest ≡ len ++ (part.bytes ++ rest) = ap (λ (b : List ℕ). b ++ rest) h.3 ∙ append_assoc len part.bytes rest in
    let read : varint_at (front ++ rest) ≡ Ok (length part.bytes, part.bytes ++ rest) = ap varint_at whole ∙ number_again len (length part.bytes) (part.bytes ++ rest) h.1 in
    let place : place_of at (front ++ rest) (part.bytes ++ rest) ≡ part.base = place_front at (front ++ rest) len (part.bytes ++ rest) whole ∙ sym h.2 in
    part_from at (front ++ rest) (part.bytes ++ rest) (length part.bytes) read (omega (arith, length-append part.bytes rest))
    ∙ ap (λ (b : ℕ). Ok (Part (record { base = b; bytes = take (length part.bytes) (part.bytes ++ rest) }), drop (length part.bytes) (part.bytes ++ rest))) place
    ∙ ap (λ (p : List ℕ). Ok (Part (record { base = part.base; bytes = p }), drop (length part.bytes) (part.bytes ++ rest))) (take_at part.bytes rest (length part.bytes) refl)
    ∙ ap (λ (r : List ℕ). Ok (Part part, r)) (drop_at part.bytes rest (length part.bytes) refl)

-- ---- an item

pub record ItemFronts (at : ℕ) (bytes : List ℕ) (x : Item × List ℕ) : Type 0 where
  pub front : List ℕ
  pub parts : bytes ≡ front ++ x.1
  pub place : x.0.at ≡ at
  pub spelled : Spells front x.0

in_range : (n : ℕ) → (eqb n 0 || ltb 536870911 n) ≡ false → (0 < n) × (n < 2 ^ 29)
in_range n h = (grind (arith, nat_tests), grind (arith, nat_tests))

pub is_in_range : (n : ℕ) → 0 < n → n < 2 ^ 29 → (eqb n 0 || ltb 536870911 n) ≡ false
is_in_range n low up = grind (arith, nat_tests)

-- a key, and the body behind it
keyed : (at : ℕ) (bytes after rest : List ℕ) (key : ℕ) (body : Body) → Fronts bytes key after → BodyFronts (key % 8) (place_of at bytes after) after (body, rest) → (0 < key / 8) × (key / 8 < 2 ^ 29) → ItemFronts at bytes (record { number = key / 8; at = at; body = body }, rest)
keyed at bytes after rest key body k b ranged =
    let key-is : key ≡ key / 8 * 8 + wire_of body = omega (arith, b.is_wire) in
    record {
      front = k.front ++ b.front;
      parts = k.parts ∙ ap (λ (r : List ℕ). k.front ++ r) b.parts ∙ sym (append_assoc k.front b.front rest);
      place = refl;
      spelled = record {
        key = k.front;
        body = b.front;
        parts = refl;
        is_key = subst (IsVarint k.front) key-is k.spelled;
        is_body = subst (λ (p : ℕ). SpellsBody p b.front body) (place_front at bytes k.front after k.parts) b.spelled;
        least = ranged.0;
        greatest = ranged.1;
      };
    }

behind_key : (at : ℕ) (bytes after : List ℕ) (key : ℕ) (y : Body × List ℕ) (x : Item × List ℕ) → IsBytes bytes → Fronts bytes key after → body_at (key % 8) (place_of at bytes after) after ≡ Ok y → cond (eqb (key / 8) 0 || ltb 536870911 (key / 8)) (Err BadNumber) (Ok (record { number = key / 8; at = at; body = y.0 }, y.1)) ≡ Ok x → ItemFronts at bytes x
behind_key at bytes after key y x fits k read e =
    let b = body_takes (key % 8) (place_of at bytes after) after y (IsBytes-back k.front after (subst IsBytes k.parts fits)) read in
    let g = guard_ok (eqb (key / 8) 0 || ltb 536870911 (key / 8)) BadNumber (record { number = key / 8; at = at; body = y.0 }, y.1) x e in
    subst (ItemFronts at bytes) g.1 (keyed at bytes after y.1 key y.0 k b (in_range (key / 8) g.0))

pub item_takes : (at : ℕ) (bytes : List ℕ) (x : Item × List ℕ) → IsBytes bytes → item_at at bytes ≡ Ok x → ItemFronts at bytes x
unfolding item_at
item_takes at bytes x fits e =
    let one = bind_ok (varint_at bytes) (λ key. body_at (key.0 % 8) (place_of at bytes key.1) key.1 >>= λ body. cond (eqb (key.0 / 8) 0 || ltb 536870911 (key.0 / 8)) (Err BadNumber) (Ok (record { number = key.0 / 8; at = at; body = body.0 }, body.1))) x e in
    after_key one.0.0 one.0.1 one.1 one.2 where
      after_key : (key : ℕ) (after : List ℕ) → varint_at bytes ≡ Ok (key, after) → (body_at (key % 8) (place_of at bytes after) after >>= λ body. cond (eqb (key / 8) 0 || ltb 536870911 (key / 8)) (Err BadNumber) (Ok (record { number = key / 8; at = at; body = body.0 }, body.1))) ≡ Ok x → ItemFronts at bytes x
      after_key key after read later =
          let two = bind_ok (body_at (key % 8) (place_of at bytes after) after) (λ body. cond (eqb (key / 8) 0 || ltb 536870911 (key / 8)) (Err BadNumber) (Ok (record { number = key / 8; at = at; body = body.0 }, body.1))) x later in
          behind_key at bytes after key two.0 x fits (number_takes bytes key after fits read) two.1 two.2

pub item_from : (at : ℕ) (bytes after rest : List ℕ) (key number wire : ℕ) (body : Body) → varint_at bytes ≡ Ok (key, after) → key % 8 ≡ wire → key / 8 ≡ number → body_at wire (place_of at bytes after) after ≡ Ok (body, rest) → (eqb number 0 || ltb 536870911 number) ≡ false → item_at at bytes ≡ Ok (record { number = number; at = at; body = body }, rest)
unfolding item_at
item_from at bytes after rest key number wire body h is_wire is_number b ranged = rw (h, is_wire, b, is_number, ranged) refl

wire_small : (body : Body) → wire_of body < 8
wire_small (Num _) = omega arith
wire_small (Eight _) = omega arith
wire_small (Part _) = omega arith
wire_small (Four _) = omega arith

pub item_again : (front rest : List ℕ) (item : Item) → Spells front item → item_at item.at (front ++ rest) ≡ Ok (item, rest)
item_again front rest item s =
    let whole : front ++ rest ≡ s.key ++ (s.body ++ rest) = ap (λ (b : List ℕ). b ++ rest) s.parts ∙ append_assoc s.key s.body rest in
    let key : ℕ = item.number * 8 + wire_of item.body in
    let read : varint_at (front ++ rest) ≡ Ok (key, s.body ++ rest) = ap varint_at whole ∙ number_again s.key key (s.body ++ rest) s.is_key in
    let place : place_of item.at (front ++ rest) (s.body ++ rest) ≡ item.at + length s.key = place_front item.at (front ++ rest) s.key (s.body ++ rest) whole in
    let small = wire_small item.body in
    let body : body_at (wire_of item.body) (place_of item.at (front ++ rest) (s.body ++ rest)) (s.body ++ rest) ≡ Ok (item.body, rest) = ap (λ (p : ℕ). body_at (wire_of item.body) p (s.body ++ rest)) place ∙ body_again (item.at + length s.key) s.body rest item.body s.is_body in
    item_from item.at (front ++ rest) (s.body ++ rest) rest key item.number (wire_of item.body) item.body read (omega (arith, small)) (omega (arith, small)) body (is_in_range item.number s.least s.greatest)

pub begins_at : (at : ℕ) (bytes rest : List ℕ) (item : Item) → IsBytes bytes → item_at at bytes ≡ Ok (item, rest) → Begins (record { base = at; bytes = bytes }) item (record { base = place_of at bytes rest; bytes = rest })
begins_at at bytes rest item fits e =
    let t = item_takes at bytes (item, rest) fits e in
    record { front = t.front; parts = t.parts; spelled = t.spelled; place = t.place; next = place_front at bytes t.front rest t.parts }
