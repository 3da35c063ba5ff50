-- Whole microseconds in ticks, by division.
use Rattle.std.proofs.Common.{◌+◌, ◌-◌, ◌*◌, ◌/◌, ◌<◌, ◌≤◌, ℕ, arith}
use Rattle.std.proofs.Math.Nat.{div-mul-le_self, lt-div-mul-add}
use Rattle.std.proofs.lemmas.Nat.{le-div, div_below}
use Rattle.file_study.specs.{times.Rounding.IsRoundedDown, times.Rounding.IsRoundedUp, times.Units.whole}

pub divided_down : (tick n : ℕ) → 0 < tick → IsRoundedDown tick (whole n) (n / tick)
divided_down tick n ticked =
    let own : n / tick * tick ≤ n = div-mul-le_self n tick in (
      omega arith,
      λ m below. le-div m n tick ticked (omega arith),
    )

pub divided_up : (tick n : ℕ) → 0 < tick
    → IsRoundedUp tick (whole n) ((n + (tick - 1)) / tick)
divided_up tick n ticked =
    let up : ℕ = (n + (tick - 1)) / tick in
    let past : n + (tick - 1) < up * tick + tick =
    lt-div-mul-add {a = n + (tick - 1)} {b = tick} ticked in (
      omega arith,
      λ m above.
          let enough : n * 1 ≤ m * tick * 1 = above in
          let below : up < m + 1 = div_below (n + (tick - 1)) tick (m + 1) ticked (omega arith) in
          omega arith,
    )
