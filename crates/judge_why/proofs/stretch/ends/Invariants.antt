use Rattle.std.proofs.Common.{◌≡◌, ◌≤◌, ◌<◌, ◌-◌, ℕ}
use Rattle.judge_why.specs.Plays.{play_of}
use Rattle.judge_why.proofs.stretch.ends.Given as goal

abbrev pub invariant-ticks : goal.invariant-ticks
invariant-ticks l =
    (l.spot.tick < l.to)
    × (l.to ≤ (play_of l.play).horizon)
    × ((r : ℕ) → l.spot.tick ≤ r → r < l.to → (play_of l.play).level l.spot.gate r ≡ l.level)

abbrev pub decreases-ticks : goal.decreases-ticks
decreases-ticks l = (play_of l.play).horizon - l.to
