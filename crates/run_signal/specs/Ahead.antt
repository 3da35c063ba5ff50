-- For how long the answers stay the same.
use Rattle.std.specs.Prelude.{◌≡◌, ◌≢◌, ℕ, suc, ◌+◌, ◌<◌, ◌≤◌, Bool, List, ◌++◌, length, replicate}
use Rattle.model_history.specs.Elements.{timed}
use Rattle.model_history.specs.{Recorded.at, Rails.Rails, Rails.Ends, Rails.rails_timed}
use Rattle.model_history.specs.{Rails.rails_at}

-- the answer at the k-th of the next ticks, counted from 0, all with this input
abbrev pub next_rails : Ends → Ends → List Rails → Rails → ℕ → Rails
next_rails pickup dropout recorded x k =
    rails_timed (rails_at (recorded ++ replicate (suc k) x)) pickup dropout (length recorded + k)

-- n is the greatest number from 1 to 4,000 such that the first n answers are equal in each lane
pub record IsSteadyFor {A : Type 0} (lanes : ℕ) (answer : ℕ → ℕ → A) (n : ℕ) : Type 0 where
  pub some : 1 ≤ n
  pub limited : n ≤ 4000
  pub same : (lane k : ℕ) → lane < lanes → k < n → answer lane k ≡ answer lane 0
  pub greatest : (m : ℕ) → m ≤ 4000 →
      ((lane k : ℕ) → lane < lanes → k < m → answer lane k ≡ answer lane 0) → m ≤ n

-- ---- the same of one rail

abbrev pub next_on : ℕ → ℕ → List Bool → Bool → ℕ → Bool
next_on p d recorded on k = timed (at (recorded ++ replicate (suc k) on)) p d (length recorded + k)

-- unless n is 4,000, the answer at n is another one
pub record IsRailSteadyFor (answer : ℕ → Bool) (n : ℕ) : Type 0 where
  pub some : 1 ≤ n
  pub limited : n ≤ 4000
  pub same : (k : ℕ) → k < n → answer k ≡ answer 0
  pub changes : n < 4000 → answer n ≢ answer 0
