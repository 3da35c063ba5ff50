-- What a tick is over.
use Rattle.run_signal.specs.Signals.{SignalOf}
use Rattle.std.specs.Prelude.{◌<◌}
use Rattle.model_line.specs.Parameters.{terminal_count}
use Rattle.run_step.specs.declared.moment.Moment.{Moment}
use Rattle.run_step.specs.{Inputs.CanReceive, Ticks.AreSent}

-- there is a tick before the horizon, each channel's delay is of a terminal and at least 1 in each
-- lane, and each terminal's key was sent at each tick before
pub record CanHear {V S : Type 0} (signal : SignalOf V S) (moment : Moment V S S)
    : Type 0 where
  pub tick : moment.t < moment.line.now.horizon
  pub delays : CanReceive signal moment.line.now moment.delays.now
  pub sent : AreSent (terminal_count moment.line.now) moment.line.now.horizon moment.t
      moment.sent.now
