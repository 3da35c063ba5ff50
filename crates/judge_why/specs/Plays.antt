-- A play, as far as the reasons of its gates rest on it.
use Rattle.std.specs.Prelude.{◌<◌, ℕ, Bool, true, false, not, get_or, length}
use Rattle.model_line.specs.Channels.{from_of}
use Rattle.model_timing.specs.{Inside.IsTimingInside, Choice.timing_choice}
use Rattle.net_gates.specs.NetOf.{NetOf}
use Rattle.run_step.specs.{Played.is_on, Runs.AreWavesOf}
use Rattle.judge_why.specs.declared.{fact.Spot.Spot, play.Play.Play}

-- the net, how many ticks there are, the level of each gate at each tick, who sends on a channel, the
-- delay of what arrives on it at each tick, and which gates are told
pub record PlayOf : Type 0 where
  pub net : NetOf
  pub horizon : ℕ
  pub level : ℕ → ℕ → Bool
  pub from : ℕ → ℕ
  pub delay : ℕ → ℕ → ℕ
  pub told : ℕ → Bool

abbrev pub play_of : Play → PlayOf
play_of play = record {
  net = play.compiled.net.now;
  horizon = play.compiled.line.now.horizon;
  level = is_on play.waves.now;
  from = from_of play.compiled.line.now.channels.items;
  delay = (timing_choice play.compiled.line.now play.timing.now).delay;
  told = λ gate. get_or play.told.now gate false;
}

-- the values are those of the net's gates, and the timing is inside the declared intervals
pub record IsPlay (play : Play) : Type 0 where
  pub waves : AreWavesOf play.compiled.net.now play.compiled.line.now play.waves.now
  pub inside : IsTimingInside play.compiled.line.now play.timing.now

-- a gate of the net, at a tick of the run
pub record IsSpot (play : PlayOf) (spot : Spot) : Type 0 where
  pub gate : spot.gate < length play.net.gates
  pub tick : spot.tick < play.horizon
