-- The rows that begin among slots.
use Rattle.std.proofs.Common.{◌≡◌, ◌∙◌, ℕ, ◌+◌, ◌==◌, Bool, false, cond, List, [], ◌∷◌, length, ap, arith, eq-eqb}
use Rattle.lan_levels.specs.PlainSlots.{PlainSlot}
use Rattle.lan_levels.specs.ZipRows.{slots_before}

pub before_here : (lists : ℕ) (s : PlainSlot) (rest : List PlainSlot) → s.rep ≡ lists → length (slots_before lists 0 (s ∷ rest)) ≡ 0
before_here lists s rest e = ap (λ (b : Bool). length (cond b [] (s ∷ slots_before lists 0 rest))) (eq-eqb s.rep lists e)

pub before_later : (lists : ℕ) (s : PlainSlot) (rest : List PlainSlot) → (s.rep == lists) ≡ false → length (slots_before lists 0 (s ∷ rest)) ≡ 1 + length (slots_before lists 0 rest)
before_later lists s rest e = ap (λ (b : Bool). length (cond b [] (s ∷ slots_before lists 0 rest))) e ∙ omega arith
