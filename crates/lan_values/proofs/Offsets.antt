-- Offsets of which none falls.
use Rattle.std.proofs.Common.{◌≡◌, ℕ, zero, suc, ◌+◌, ◌-◌, ◌*◌, ◌<◌, ◌≤◌, List, length, arith, subst}
use Rattle.lan_levels.specs.Values.{offset, NoneFalls, IsVariable}

rises_by : (all : List ℕ) (n i k : ℕ) → NoneFalls all n → i + k ≤ n → offset all i ≤ offset all (i + k)
rises_by all n i zero h le = let e : i ≡ i + 0 = omega arith in subst (λ (j : ℕ). offset all i ≤ offset all j) e (omega arith)
rises_by all n i (suc k) h le =
    let before : offset all i ≤ offset all (i + k) = rises_by all n i k h (omega arith) in
    let lt : i + k < n = omega arith in
    let step : offset all (i + k) ≤ offset all (i + k + 1) = h (i + k) lt in
    let e : i + k + 1 ≡ i + suc k = omega arith in
    subst (λ (j : ℕ). offset all i ≤ offset all j) e (omega arith)

-- the offsets on both sides of a value
pub record Around (all : List ℕ) (i : ℕ) : Type 0 where
  pub room : 4 * (i + 1 + 1) ≤ length all
  pub rise : offset all i ≤ offset all (i + 1)
  pub end : offset all (i + 1) ≤ length all

pub around : (all : List ℕ) (n i : ℕ) → IsVariable n all → i < n → Around all i
around all n i h lt = record {
  room = let r = h.begins.room in omega arith;
  rise = h.rises i lt;
  end =
      let k = n - (i + 1) in
      let e : i + 1 + k ≡ n = omega arith in
      let le : offset all (i + 1) ≤ offset all (i + 1 + k) = rises_by all n (i + 1) k h.rises (omega arith) in
      let to : offset all (i + 1) ≤ offset all n = subst (λ (j : ℕ). offset all (i + 1) ≤ offset all j) e le in
      let last = h.last in
      omega arith;
}
