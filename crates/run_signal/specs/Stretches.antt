-- Elements over a history of which a stretch has one value.
use Rattle.std.specs.Prelude.{◌≡◌, ℕ, ◌+◌, ◌<◌, ◌≤◌, ◌++◌, replicate}
use Rattle.model_history.specs.Rails.{Rails, Ends, rails_timed, rails_sealed}
use Rattle.model_history.specs.Recorded.{first_ticks}
use Rattle.run_signal.specs.Ahead.{next_rails}

-- the history has this value at each of m ticks from tick n on
abbrev pub StaysAt : (ℕ → Rails) → Rails → ℕ → ℕ → Type 0
StaysAt u x n m = (k : ℕ) → n ≤ k → k < n + m → u k ≡ x

pub record ElementsInAStretch : Type 0 where
  -- what is recorded of a stretch is its value, so many times
  pub recorded : (u : ℕ → Rails) (x : Rails) (n m : ℕ) → StaysAt u x n m
      → first_ticks u n ++ replicate m x ≡ first_ticks u (n + m)
  -- a seal stays as it is at the first tick
  pub sealed : (u v : ℕ → Rails) (x y : Rails) (n m k : ℕ) → StaysAt u x n m → StaysAt v y n m
      → n ≤ k → k < n + m → rails_sealed u v k ≡ rails_sealed u v n
  -- and so does a timed element, for as long as its next answers are equal
  pub timed : (u : ℕ → Rails) (p d : Ends) (x : Rails) (n m k : ℕ) → StaysAt u x n m
      → ((i : ℕ) → i < m
      → next_rails p d (first_ticks u n) x i ≡ next_rails p d (first_ticks u n) x 0)
      → n ≤ k → k < n + m → rails_timed u p d k ≡ rails_timed u p d n
