use Rattle.std.proofs.Common.{◌<◌, ℕ}
use Rattle.judge_races.specs.Races.{HasRaceAt}
use Rattle.judge_races.proofs.races.place_of.Given as goal

abbrev pub invariant-loop-i : goal.invariant-loop-i
invariant-loop-i l = (j : ℕ) → j < l.i → ¬ (HasRaceAt l.races l.ends j)
