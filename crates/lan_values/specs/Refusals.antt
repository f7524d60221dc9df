-- Why bytes are no buffer of so many values.
use Rattle.std.specs.Prelude.{◌≢◌, ℕ, ◌+◌, ◌-◌, ◌*◌, ◌/◌, ◌<◌, ◌≤◌, List, length}
use Rattle.lan_levels.specs.Values.{Encoding, flat, bools, variable, offset, NoneFalls, BeginsWell}
use Rattle.lan_values.specs.declared.fault.ValueFault.{ValueFault}
use Rattle.lan_values.specs.declared.fault.ValueFault.TheVariants as fault

-- the offset is below the one before it, and none before it is
pub record FallsFirst (n : ℕ) (all : List ℕ) (i : ℕ) : Type 0 where
  pub begins : BeginsWell n all
  pub later : (1 ≤ i) × (i ≤ n)
  pub rises : NoneFalls all (i - 1)
  pub falls : offset all i < offset all (i - 1)

-- why the bytes are no buffer of `n` values
abbrev pub Stands : Encoding → ℕ → List ℕ → ValueFault → Type 0
Stands (flat width) n all fault.Length = length all ≢ width * n
Stands bools n all fault.Length = length all ≢ (n + 7) / 8
Stands variable n all fault.Length = length all < 4 * (n + 1)
Stands variable n all fault.FirstOffset = (4 * (n + 1) ≤ length all) × (offset all 0 ≢ 4 * (n + 1))
Stands variable n all (fault.Falling i) = FallsFirst n all i
Stands variable n all fault.LastOffset = BeginsWell n all × NoneFalls all n × (offset all n ≢ length all)
Stands _ n all _ = ⊥
