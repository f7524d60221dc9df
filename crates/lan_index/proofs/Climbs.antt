-- What never falls from one number to the next.
use Rattle.std.proofs.Common.{ℕ, zero, suc, ◌+◌, ◌-◌, ◌<◌, ◌≤◌, ◌≡◌, ap, arith}

climbs_by : (f : ℕ → ℕ) (rows a d : ℕ) → ((n : ℕ) → n < rows → f n ≤ f (n + 1)) → a + d ≤ rows → f a ≤ f (a + d)
climbs_by f rows a zero h le = let same : a ≡ a + 0 = omega arith in let e = ap f same in omega arith
climbs_by f rows a (suc d) h le =
    let before : f a ≤ f (a + d) = climbs_by f rows a d h (omega arith) in
    let step : f (a + d) ≤ f (a + d + 1) = h (a + d) (omega arith) in
    let same : a + d + 1 ≡ a + suc d = omega arith in
    let e = ap f same in
    omega arith

-- what never falls from one to the next never falls
pub climbs : (f : ℕ → ℕ) (rows a b : ℕ) → ((n : ℕ) → n < rows → f n ≤ f (n + 1)) → a ≤ b → b ≤ rows → f a ≤ f b
climbs f rows a b h le within =
    let e : f (a + (b - a)) ≡ f b = ap f (let s : a + (b - a) ≡ b = omega arith in s) in
    let c : f a ≤ f (a + (b - a)) = climbs_by f rows a (b - a) h (omega arith) in
    omega arith
