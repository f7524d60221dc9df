-- Reading an item from the front of bytes, step by step: what the private functions compute. What is
-- read so is what is spelled, and the public contracts speak of that alone.
use Rattle.std.specs.Prelude.{◌≡◌, ℕ, zero, suc, ◌+◌, ◌*◌, ◌-◌, ◌/◌, ◌%◌, List, [], ◌∷◌, length, take, drop, cond, nat_lt, nat_eq, ◌||◌, Result, Ok, Err}
use Rattle.std.specs.Int.{w32, w64, from_le_bytes}
use Rattle.lan_wire.specs.declared.item.WireKind.{WireKind}
use Rattle.lan_wire.specs.declared.item.WireKind.TheVariants.{Cut, TooLong, BadType, BadNumber}
use Rattle.lan_wire.specs.declared.item.Body.{Body}
use Rattle.lan_wire.specs.declared.item.Body.TheVariants.{Num, Eight, Four, Part}
use Rattle.lan_wire.specs.declared.item.Item.{Item}

-- the next step, where the first one read something
infixl 10 ◌>>=◌
abbrev pub ◌>>=◌ : {A B : Type 0} → Result A WireKind → (A → Result B WireKind) → Result B WireKind
(Ok x) >>= f = f x
(Err e) >>= f = Err e

-- what a function returned, seen by view, is what reading gives
abbrev pub Gives : {X Y : Type 0} → (X → Y) → Result X WireKind → Result Y WireKind → Type 0
Gives view (Ok x) read = read ≡ Ok (view x)
Gives view (Err e) read = read ≡ Err e

-- a number above lower groups, of which it counts units
abbrev pub above : ℕ → ℕ → Result (ℕ × List ℕ) WireKind → Result (ℕ × List ℕ) WireKind
above low unit read = read >>= λ high. Ok (low + unit * high.0, high.1)

-- a number in at most so many bytes and one, of whose last only the lowest bit may be set, and what follows it
unfoldable pub varint_in : ℕ → List ℕ → Result (ℕ × List ℕ) WireKind
varint_in more [] = Err Cut
varint_in zero (b ∷ bs) = cond (nat_lt 1 b) (Err TooLong) (Ok (b, bs))
varint_in (suc more) (b ∷ bs) = cond (nat_lt b 128) (Ok (b, bs)) (above (b % 128) 128 (varint_in more bs))

-- a varint at the front, and what follows it
unfoldable pub varint_at : List ℕ → Result (ℕ × List ℕ) WireKind
varint_at bytes = varint_in 9 bytes

-- the place of the rest, where the bytes lie at a place
abbrev pub place_of : ℕ → List ℕ → List ℕ → ℕ
place_of at bytes rest = at + (length bytes - length rest)

-- a length and so many bytes at the front, whose first byte lies at a place, and what follows them
unfoldable pub part_at : ℕ → List ℕ → Result (Body × List ℕ) WireKind
part_at at bytes = varint_at bytes >>= λ len. cond (nat_lt (length len.1) len.0) (Err Cut) (Ok (Part (record { base = place_of at bytes len.1; bytes = take len.0 len.1 }), drop len.0 len.1))

-- the body of a wire type at the front, whose first byte lies at a place, and what follows it
unfoldable pub body_at : ℕ → ℕ → List ℕ → Result (Body × List ℕ) WireKind
body_at wire at bytes =
    cond (nat_eq wire 0) (varint_at bytes >>= λ n. Ok (Num n.0, n.1))
    (cond (nat_eq wire 1) (cond (nat_lt (length bytes) 8) (Err Cut) (Ok (Eight (from_le_bytes w64 (take 8 bytes)), drop 8 bytes)))
    (cond (nat_eq wire 2) (part_at at bytes)
    (cond (nat_eq wire 5) (cond (nat_lt (length bytes) 4) (Err Cut) (Ok (Four (from_le_bytes w32 (take 4 bytes)), drop 4 bytes)))
    (Err BadType))))

-- the item at the front, whose first byte lies at a place, and what follows it
unfoldable pub item_at : ℕ → List ℕ → Result (Item × List ℕ) WireKind
item_at at bytes =
    varint_at bytes >>= λ key.
    body_at (key.0 % 8) (place_of at bytes key.1) key.1 >>= λ body.
    cond (nat_eq (key.0 / 8) 0 || nat_lt 536870911 (key.0 / 8)) (Err BadNumber) (Ok (record { number = key.0 / 8; at = at; body = body.0 }, body.1))
