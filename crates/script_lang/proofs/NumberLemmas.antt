-- Digits of a number.
use Rattle.std.proofs.Common.{ℕ, ◌^◌, ◌<◌, ◌≤◌, arith}
use Rattle.std.proofs.Math.Nat.{pow-le-pow_right}

-- the number of 17 digits at most
pub number_before : (number i : ℕ) → number < 10 ^ i → i < 18 → number < 10 ^ 17
number_before number i small few =
    let base : 0 < 10 = omega arith in
    let short : i ≤ 17 = omega arith in
    let most : 10 ^ i ≤ 10 ^ 17 = pow-le-pow_right {n = 10} base short in omega arith
