-- How many values a sweep has.
use Rattle.std.proofs.Common.{◌≡◌, ◌+◌, ◌*◌, ◌/◌, ◌<◌, ◌≤◌, ℕ, ap, arith}
use Rattle.std.proofs.Math.Nat.{div-mul-le_self, mul-le-mul_right, mul-lt-mul_of_pos_right, mul-pos}
use Rattle.std.proofs.lemmas.Nat.{le-div}
use Rattle.file_study.specs.declared.times.time.Sweep.{Sweep}
use Rattle.file_study.specs.{times.Fractions.IsAtMost, times.Sweeps.IsCount, times.Sweeps.value_of}

-- where the first is above the last, no value is at most the last
pub no_value : (s : Sweep) → 0 < s.step.under
    → s.last.over * s.first.under < s.first.over * s.last.under
    → (i : ℕ) → ¬ (IsAtMost (value_of s i) s.last)
no_value s some above i most =
    let more : s.last.over * s.first.under * s.step.under
    < s.first.over * s.last.under * s.step.under =
    mul-lt-mul_of_pos_right {m = s.last.over * s.first.under} {n = s.first.over * s.last.under}
    {k = s.step.under} above some in
    let h : (s.first.over * (1 * s.step.under) + i * s.step.over * s.first.under) * s.last.under
    ≤ s.last.over * (s.first.under * (1 * s.step.under)) = most in
    absurd (omega arith)

-- the way from the first to the last, parted by the step
pub counted : (s : Sweep) (way : ℕ) → 0 < s.last.under → 0 < s.first.under → 0 < s.step.over
    → way + s.first.over * s.last.under ≡ s.last.over * s.first.under
    → IsCount s (way * s.step.under / (s.last.under * s.first.under * s.step.over) + 1)
counted s way last first step is i =
    let parts : ℕ = s.last.under * s.first.under * s.step.over in
    let quotient : ℕ = way * s.step.under / parts in
    let all : (way + s.first.over * s.last.under) * s.step.under
    ≡ s.last.over * s.first.under * s.step.under = ap (λ n. n * s.step.under) is in (
      λ below.
          let up : i * parts ≤ quotient * parts =
          mul-le-mul_right {m = i} {n = quotient} parts (omega arith) in
          let most : quotient * parts ≤ way * s.step.under =
          div-mul-le_self (way * s.step.under) parts in
          let h : i * (s.last.under * s.first.under * s.step.over) ≤ way * s.step.under =
          omega arith in
          omega arith,
      λ most.
          let h : (s.first.over * (1 * s.step.under) + i * s.step.over * s.first.under)
          * s.last.under ≤ s.last.over * (s.first.under * (1 * s.step.under)) = most in
          let some : 0 < parts = mul-pos {m = s.last.under * s.first.under} {n = s.step.over}
          (mul-pos {m = s.last.under} {n = s.first.under} last first) step in
          let below : i ≤ quotient = le-div i (way * s.step.under) parts some (omega arith) in
          omega arith,
    )
