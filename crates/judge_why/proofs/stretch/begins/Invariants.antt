use Rattle.std.proofs.Common.{◌≡◌, ◌≤◌, ℕ}
use Rattle.judge_why.specs.Plays.{play_of}
use Rattle.judge_why.proofs.stretch.begins.Given as goal

abbrev pub invariant-ticks : goal.invariant-ticks
invariant-ticks l =
    (l.from ≤ l.spot.tick)
    × ((r : ℕ) → l.from ≤ r → r ≤ l.spot.tick → (play_of l.play).level l.spot.gate r ≡ l.level)

abbrev pub decreases-ticks : goal.decreases-ticks
decreases-ticks l = l.from
