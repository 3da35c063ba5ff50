use Rattle.std.proofs.Common.{◌≡◌, ◌<◌, ℕ, false, get_or}
use Rattle.file_study.specs.times.Words.{is_no_space}
use Rattle.file_study.proofs.times.word.leading_spaces.Given as goal

-- spaces alone so far
abbrev pub invariant-loop-i : goal.invariant-loop-i
invariant-loop-i l = (k : ℕ) → k < l.i → is_no_space (get_or l.text k 0) ≡ false
