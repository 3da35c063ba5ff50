-- Round times of a ruler.
use Rattle.std.proofs.Common.{◌≤◌, ◌<◌, ◌+◌, ◌*◌, ◌/◌, ℕ, arith}
use Rattle.std.proofs.Math.Nat.{le_refl}
use Rattle.std.proofs.lemmas.Nat.{div-add-mod', mul-le}

-- the n-th is not behind the last time, if there are so many before it
pub round_within : (n last round : ℕ) → n < last / round + 1 → n * round ≤ last
round_within n last round few =
    omega (
      arith,
      div-add-mod' last round,
      mul-le n round (last / round) round (omega arith) (le_refl round),
    )
