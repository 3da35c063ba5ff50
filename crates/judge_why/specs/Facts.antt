-- What is so of a gate at a tick.
use Rattle.std.specs.Prelude.{◌≡◌, ◌<◌, ◌≤◌, ◌+◌, ℕ, Bool, not, length}
use Rattle.judge_why.specs.declared.fact.{Spot.Spot, Fact.Fact}
use Rattle.judge_why.specs.Plays.{PlayOf}

-- the level stands at each tick from `from` on to the one before `to`, and at neither beside these
pub record IsStretch (u : ℕ → Bool) (horizon : ℕ) (level : Bool) (from to : ℕ) : Type 0 where
  pub within : to ≤ horizon
  pub stays : (r : ℕ) → from ≤ r → r < to → u r ≡ level
  pub begins : (r : ℕ) → r + 1 ≡ from → u r ≡ not level
  pub ends : to < horizon → u to ≡ not level

-- the fact is of this gate and tick, and so is its level and the stretch of it
pub record IsFact (play : PlayOf) (spot : Spot) (depth : ℕ) (fact : Fact) : Type 0 where
  pub gate : fact.gate ≡ spot.gate
  pub tick : fact.tick ≡ spot.tick
  pub there : fact.gate < length play.net.gates
  pub deep : fact.depth ≡ depth
  pub past : fact.from ≤ fact.tick
  pub lasts : fact.tick < fact.to
  pub stretch : IsStretch (play.level fact.gate) play.horizon fact.level fact.from fact.to

-- the fact is of a gate of the net at a tick of the run, and has had its level at a tick not later
pub record IsFactOf (play : PlayOf) (fact : Fact) : Type 0 where
  pub gate : fact.gate < length play.net.gates
  pub tick : fact.tick < play.horizon
  pub past : fact.from ≤ fact.tick
