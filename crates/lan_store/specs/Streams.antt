-- What a source or a sink that tells says of its bytes.
use Rattle.std.specs.Prelude.{◌≡◌, ℕ, ◌<◌, ◌≤◌, List, length, take, drop, ◌++◌, Option, Some, option_map, [], Result, Ok, Err}
use Rattle.std.specs.Option.{ForSome}
use Rattle.std.specs.declared.alloc.Global.{Global}
use Rattle.std.specs.Prelude.{Vec}
use Rattle.lan_store.specs.declared.copying.ReadAllFault.{ReadAllFault}
use Rattle.lan_store.specs.declared.copying.ReadAllFault.TheVariants.{Failed, TooLong, Memory}

-- the bytes with these behind them, where they are told
abbrev pub and_then_bytes : Option (List ℕ) → List ℕ → Option (List ℕ)
and_then_bytes told more = option_map (λ bytes. bytes ++ more) told

-- the next bytes of what was left stand in the buffer, and none were taken only at the end or into nothing
pub record TakesNext (left into : List ℕ) (n : ℕ) : Type 0 where
  pub within : n ≤ length left
  pub bytes : take n into ≡ take n left
  pub ended : n ≡ 0 → 0 < length into → left ≡ []

-- a read took the next bytes of what was left, or nothing where it failed; a source that tells goes on to tell
abbrev pub Takes : {E : Type 0} → Option (List ℕ) → Option (List ℕ) → List ℕ → Result ℕ E → Type 0
Takes old new into (Ok n) = (new ≡ option_map (drop n) old) × ForSome old (λ left. TakesNext left into n)
Takes old new into (Err _) = new ≡ old

-- there was more than so much, and more than that was taken
pub record TookOver (most : ℕ) (left : List ℕ) (now : Option (List ℕ)) : Type 0 where
  pub long : most < length left
  pub taken : (k : ℕ) × (most < k) × (now ≡ Some (drop k left))

-- a front of what was left was taken
abbrev pub TookFront : Option (List ℕ) → Option (List ℕ) → Type 0
TookFront old new = (k : ℕ) × (new ≡ option_map (drop k) old)

-- all that was left was read, where it was no more than this; and before the source failed, or memory ran short, a front of it
abbrev pub ReadsAll : ℕ → Option (List ℕ) → Option (List ℕ) → Result (Vec ℕ Global) ReadAllFault → Type 0
ReadsAll most old new (Ok bytes) = (length bytes.items ≤ most) × ForSome old (λ left. (bytes.items ≡ left) × (new ≡ Some []))
ReadsAll most old new (Err TooLong) = ForSome old (λ left. TookOver most left new)
ReadsAll most old new (Err Failed) = TookFront old new
ReadsAll most old new (Err Memory) = TookFront old new
