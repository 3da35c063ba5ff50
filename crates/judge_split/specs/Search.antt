-- The search for the parts of the declared box in which an obligation is decided.
use Rattle.std.specs.Prelude.{◌+◌, ℕ, zero, suc}
use Rattle.model_line.specs.{declared.line.Line.Line, declared.script.Script.Script}
use Rattle.model_line.specs.Parameters.{declared_ends, declared_middle}
use Rattle.model_line.specs.WithBounds.{IsWithBounds}
use Rattle.model_logic.specs.Histories.{PairHistory, IsPairHistory}
use Rattle.model_logic.specs.Choice.{declared_box}
use Rattle.model_timing.specs.Timing.{TimingValues}
use Rattle.judge_verdict.specs.declared.verdict.verdict.Verdict.{Verdict}
use Rattle.judge_verdict.specs.declared.verdict.verdict.Verdict.TheVariants as verdict
use Rattle.judge_verdict.specs.verdict.Verdicts.{IsVerdict}
use Rattle.judge_split.specs.Trees.{SplitTree, Yes, Undecided, Split}
use Rattle.judge_split.specs.Widths.{IsWidest, IsNarrow}

-- a tree, or a timing that fails
pub data Found : Type 0 where
  Tree : (tree : SplitTree) → Found
  Fails : (timing : TimingValues) → Found

-- the verdict of a line's script at terminal k, over the one interval history of its declared box
abbrev pub IsVerdictOf : Line → Script → ℕ → Verdict → Type 0
IsVerdictOf line script k said =
    (w : PairHistory) → IsPairHistory line script (declared_box line) w
    → IsVerdict line script k w said

-- the line's verdict is undecided, and this is its widest parameter
pub record IsSplitAt (line : Line) (script : Script) (k param : ℕ) : Type 0 where
  pub undecided : IsVerdictOf line script k verdict.Undecided
  pub widest : IsWidest line param

-- the line with the lower half of a parameter's interval, and that with the upper half
abbrev pub IsLower : Line → ℕ → Line → Type 0
IsLower line param first =
    IsWithBounds line param (declared_ends line param).least (declared_middle line param) first

abbrev pub IsUpper : Line → ℕ → Line → Type 0
IsUpper line param second =
    IsWithBounds line param (declared_middle line param + 1) (declared_ends line param).greatest second

-- what is found over the declared box of a line with at most n splits above one another. A verdict
-- that is decided stands. Without splits, or where no parameter can be split, the box is left
-- undecided. Else both halves are searched, the lower one first; a timing that fails in a half is
-- all that is found.
pub data IsSearch (script : Script) (k : ℕ) : ℕ → Line → Found → Type 0 where
  yes : (n : ℕ) (line : Line) → IsVerdictOf line script k verdict.Yes
      → IsSearch script k n line (Tree Yes)
  no : (n : ℕ) (line : Line) (timing : TimingValues)
      → IsVerdictOf line script k (verdict.No timing) → IsSearch script k n line (Fails timing)
  deepest : (line : Line) → IsVerdictOf line script k verdict.Undecided
      → IsSearch script k zero line (Tree Undecided)
  narrow : (n : ℕ) (line : Line) → IsVerdictOf line script k verdict.Undecided → IsNarrow line
      → IsSearch script k n line (Tree Undecided)
  first_fails : (n : ℕ) (line : Line) (param : ℕ) (first : Line) (timing : TimingValues)
      → IsSplitAt line script k param → IsLower line param first
      → IsSearch script k n first (Fails timing)
      → IsSearch script k (suc n) line (Fails timing)
  second_fails : (n : ℕ) (line : Line) (param : ℕ) (first second : Line) (lower : SplitTree)
      (timing : TimingValues) → IsSplitAt line script k param
      → IsLower line param first → IsSearch script k n first (Tree lower)
      → IsUpper line param second → IsSearch script k n second (Fails timing)
      → IsSearch script k (suc n) line (Fails timing)
  split : (n : ℕ) (line : Line) (param : ℕ) (first second : Line) (lower upper : SplitTree)
      → IsSplitAt line script k param
      → IsLower line param first → IsSearch script k n first (Tree lower)
      → IsUpper line param second → IsSearch script k n second (Tree upper)
      → IsSearch script k (suc n) line (Tree (Split param (declared_middle line param) lower upper))
