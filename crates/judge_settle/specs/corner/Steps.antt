-- The delays of a choice as steps, channel by channel and tick by tick.
use Rattle.std.specs.Prelude.{◌≡◌, ◌≤◌, ◌<◌, ◌==◌, ◌++◌, ℕ, List, [], ◌∷◌, get_or, IsTrue}
use Rattle.std.specs.Prelude.{if◌then◌else◌}
use Rattle.std.specs.List.{All}
use Rattle.model_line.specs.Parameters.{channel_count, delay_param}
use Rattle.model_line.specs.declared.line.Line.{Line}
use Rattle.model_timing.specs.declared.step.Step.{Step}
use Rattle.model_timing.specs.Timing.{comes_before, ascend, number_at}
use Rattle.model_timing.specs.Inside.{IsStepInside}

-- with a step at tick t where the delay differs from the last one
abbrev pub with_change : List (Step ℕ) → ℕ → ℕ → ℕ → ℕ → List (Step ℕ)
with_change steps param t last delay =
    if delay == last then steps
    else steps ++ (record { param = param; from = t; value = delay } ∷ [])

-- each step stands before those of a parameter from tick t on
abbrev pub StandBefore : ℕ → ℕ → List (Step ℕ) → Type 0
StandBefore param t steps =
    All (λ s. IsTrue (comes_before s (record { param = param; from = t; value = 0 }))) steps

-- the number of a parameter from tick t on is this one
abbrev pub IsNumberFrom : List (Step ℕ) → ℕ → ℕ → ℕ → ℕ → Type 0
IsNumberFrom steps param own t last = (r : ℕ) → t ≤ r → number_at steps param r own ≡ last

-- the steps of the channels before c, and of channel c before tick t: they ascend, lie inside, and
-- give the delays of these ticks
pub record AreStepsUpTo (line : Line) (delay : ℕ → ℕ → ℕ) (numbers : List ℕ) (c t : ℕ)
    (steps : List (Step ℕ)) : Type 0 where
  pub ascending : IsTrue (ascend steps)
  pub before : (d : ℕ) → c ≤ d → d < channel_count line → StandBefore (delay_param line d) t steps
  pub inside : All (IsStepInside line) steps
  pub done : (d r : ℕ) → d < c → 1 ≤ r → r < line.horizon
      → number_at steps (delay_param line d) r (get_or numbers (delay_param line d) 0) ≡ delay d r
  pub begun : (r : ℕ) → 1 ≤ r → r < t
      → number_at steps (delay_param line c) r (get_or numbers (delay_param line c) 0) ≡ delay c r
