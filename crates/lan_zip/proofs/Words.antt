-- The room of a control word.
use Rattle.std.proofs.Common.{ℕ, ◌+◌, ◌*◌, ◌^◌, ◌<◌, ◌≤◌, arith}
use Rattle.std.proofs.lemmas.Nat.{mul-add-lt, pow-add}
use Rattle.std.proofs.Math.Nat.{pow-le-pow_right}

pub word_room : (high low word rep def lists : ℕ) → high + low ≤ 8 * word → lists < 2 ^ high → rep ≤ lists → def < 2 ^ low → rep * 2 ^ low + def < 2 ^ (8 * word)
word_room high low word rep def lists le few less lt =
    let fits = mul-add-lt rep (2 ^ low) def (2 ^ high) (omega arith) lt in
    let whole = pow-add 2 low high in
    let more : 2 ^ (low + high) ≤ 2 ^ (8 * word) = pow-le-pow_right {n = 2} (omega arith) (omega arith) in
    omega arith
