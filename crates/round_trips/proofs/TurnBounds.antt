-- How many engines are told at once.
use Rattle.std.proofs.Common.{◌≡◌, ℕ, ◌+◌, ◌*◌, ◌/◌, ◌<◌, ◌≤◌, min, max, arith}
use Rattle.std.proofs.Math.Nat.{mul-le-mul}

-- twenty parts of a twentieth are all
pub whole : (count passed : ℕ) → 20 ≤ passed → count ≤ max 64 (count / 20 + 1) * passed
whole count passed long =
    let part : count / 20 + 1 ≤ max 64 (count / 20 + 1) = omega arith in
    let parts : (count / 20 + 1) * 20 ≤ max 64 (count / 20 + 1) * passed = mul-le-mul part long in
    omega arith

-- a few are one part
pub part : (count passed : ℕ) → 1 ≤ passed → count ≤ 64 → count ≤ max 64 (count / 20 + 1) * passed
part count passed once few =
    let least : 64 ≤ max 64 (count / 20 + 1) = omega arith in
    let parts : 64 * 1 ≤ max 64 (count / 20 + 1) * passed = mul-le-mul least once in
    omega arith

pub all_told : (count passed : ℕ) → 20 ≤ passed → min (max 64 (count / 20 + 1) * passed) count ≡ count
all_told count passed long =
    let enough : count ≤ max 64 (count / 20 + 1) * passed = whole count passed long in
    omega arith

pub few_told : (count passed : ℕ) → 1 ≤ passed → count ≤ 64 → min (max 64 (count / 20 + 1) * passed) count ≡ count
few_told count passed once few =
    let enough : count ≤ max 64 (count / 20 + 1) * passed = part count passed once few in
    omega arith
