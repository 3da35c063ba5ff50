-- What a signal is: its lanes, and what a value and a span are in each of them.
use Rattle.std.specs.Prelude.{ℕ}
use Rattle.model_history.specs.Rails.{Rails, Ends}

-- how many lanes there are, the two rails of a value in a lane, and the two ends of a span in a lane
pub record SignalOf (V S : Type 0) : Type 0 where
  pub lanes : ℕ
  pub rails : V → ℕ → Rails
  pub ends : S → ℕ → Ends
