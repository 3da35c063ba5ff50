-- The choice of delays that a timing stands for.
use Rattle.std.specs.Prelude.{◌≡◌, ◌≤◌, ◌<◌, ℕ, get_or}
use Rattle.model_line.specs.Parameters.{param_count, channel_count, delay_param}
use Rattle.model_line.specs.declared.line.Line.{Line}
use Rattle.model_logic.specs.Choice.{Choice}
use Rattle.model_timing.specs.Timing.{TimingValues, number_at}

-- each parameter has its own number; each delay has at every tick that of its step with the
-- greatest tick not after it, else its own
unfoldable pub timing_choice : Line → TimingValues → Choice
timing_choice line timing = record {
  number = λ i. get_or timing.values i 0;
  delay = λ c t.
      let param = delay_param line c in
      number_at timing.steps param t (get_or timing.values param 0);
}

-- two choices are the same over the run: each number, and each delay at every tick from 1 on. No
-- signal arrives at tick 0, since each delay is at least 1.
pub record IsSameChoice (line : Line) (a b : Choice) : Type 0 where
  pub numbers : (i : ℕ) → i < param_count line → a.number i ≡ b.number i
  pub delays : (c t : ℕ) → c < channel_count line → 1 ≤ t → t < line.horizon
      → a.delay c t ≡ b.delay c t
