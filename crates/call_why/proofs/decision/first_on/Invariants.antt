use Rattle.std.proofs.Common.{◌<◌, ℕ}
use Rattle.std.specs.Prelude.{IsFalse}
use Rattle.judge_why.specs.Plays.{play_of}
use Rattle.call_why.proofs.decision.first_on.Given as goal

abbrev pub invariant-loop-tick : goal.invariant-loop-tick
invariant-loop-tick l = (r : ℕ) → r < l.tick → IsFalse ((play_of l.play).level l.gate r)
