-- A wait that was doubled often.
use Rattle.std.proofs.Common.{◌≡◌, ℕ, ◌+◌, ◌*◌, ◌<◌, ◌≤◌, ◌^◌, min, arith}
use Rattle.std.proofs.Math.Pow.{pow_mono}
use Rattle.std.proofs.Math.Nat.{mul-le-mul}

-- six times is beyond the longest
pub beyond : (wait k : ℕ) → 20 ≤ wait → 6 ≤ k → 1000 ≡ min (wait * 2 ^ k) 1000
beyond wait k least often =
    let factor : 2 ^ 6 ≤ 2 ^ k = pow_mono {i = 6} {j = k} often in
    let far : 20 * 2 ^ 6 ≤ wait * 2 ^ k = mul-le-mul least factor in
    omega arith

-- less often 64 bits hold it
pub below : (wait k : ℕ) → wait ≤ 1000 → k < 6 → wait * 2 ^ k < 2 ^ 64
below wait k most few =
    let factor : 2 ^ k ≤ 2 ^ 6 = pow_mono {i = k} {j = 6} (omega (arith, few)) in
    let near : wait * 2 ^ k ≤ 1000 * 2 ^ 6 = mul-le-mul most factor in
    omega arith
