-- How many rows begin with slots.
use Rattle.std.proofs.Common.{◌≡◌, ◌==◌, ℕ, ◌+◌, ◌≤◌, Bool, true, false, cond, List, [], ◌∷◌, ◌++◌, length, arith}
use Rattle.lan_levels.specs.PlainSlots.{PlainSlot}
use Rattle.lan_levels.specs.ZipSlots.{starts}

pub starts_append : (lists : ℕ) (xs ys : List PlainSlot) → starts lists (xs ++ ys) ≡ starts lists xs + starts lists ys
starts_append lists [] ys = omega arith
starts_append lists (x ∷ xs) ys = omega (arith, starts_append lists xs ys)

one_at_most : (b : Bool) → cond b 1 0 ≤ 1
one_at_most true = omega arith
one_at_most false = omega arith

pub starts_few : (lists : ℕ) (xs : List PlainSlot) → starts lists xs ≤ length xs
starts_few lists [] = omega arith
starts_few lists (x ∷ xs) = omega (arith, one_at_most (x.rep == lists), starts_few lists xs)
