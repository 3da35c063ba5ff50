-- How large a number of at most nine digits is.
use Rattle.std.proofs.Common.{◌≡◌, ◌+◌, ◌*◌, ◌^◌, ◌<◌, ◌≤◌, ℕ, arith, lit<}
use Rattle.std.proofs.Math.Nat.{pow-le-pow_right, one-le-pow}
use Rattle.std.proofs.lemmas.Nat.{pow-add, mul-le}
use Rattle.file_study.specs.times.Fractions.{IsOfSize}

-- whole digits and decimals together are below the power of ten for all of them
joined_below : (a b m n : ℕ) → a < 10 ^ m → b < 10 ^ n → a * 10 ^ n + b < 10 ^ (m + n)
joined_below a b m n whole decimals =
    let more : (a + 1) * 10 ^ n ≤ 10 ^ m * 10 ^ n =
    mul-le (a + 1) (10 ^ n) (10 ^ m) (10 ^ n) (omega arith) (omega arith) in
    rw (pow-add 10 m n) (omega arith)

pub decimal_within : (a b m n parts : ℕ) → a < 10 ^ m → b < 10 ^ n → 0 < m → m + n ≤ 9
    → parts ≡ 10 ^ n
    → IsOfSize (10 ^ 9) (10 ^ 8) (record { over = a * parts + b; under = parts })
decimal_within a b m n parts whole decimals some few is =
    let all : 10 ^ (m + n) ≤ 10 ^ 9 = pow-le-pow_right {n = 10} (lit< tt) {i = m + n} {j = 9} few in
    let below : a * 10 ^ n + b < 10 ^ (m + n) = joined_below a b m n whole decimals in
    rw is (record {
      some = one-le-pow n 10 (lit< tt);
      under_most = pow-le-pow_right {n = 10} (lit< tt) {i = n} {j = 8} (omega arith);
      over_most = omega arith;
    })
