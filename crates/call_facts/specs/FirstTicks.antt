-- The first ticks of all obligations.
use Rattle.std.specs.Prelude.{◌≡◌, ◌<◌, ◌+◌, ◌*◌, ℕ, List, Some, length, slice_get}
use Rattle.model_line.specs.{declared.line.Line.Line, declared.script.Script.Script}
use Rattle.model_line.specs.Parameters.{terminal_count}
use Rattle.judge_verdict.specs.verdict.OneEach.{OneEach}
use Rattle.judge_report.specs.Firsts.{IsFirstMay, IsFirstMust}
use Rattle.call_facts.specs.declared.firsts.Firsts.{Firsts}

-- where the obligation of script s at terminal k stands: script by script, and in each its terminals
-- in line order
abbrev pub place : Line → ℕ → ℕ → ℕ
place line s k = s * terminal_count line + k

-- the first ticks of obligation i: at which its trip may come, and at which it must have
pub record AreFirstOf (line : Line) (scripts : List Script) (i : ℕ) (firsts : Firsts) : Type 0 where
  pub script : Script
  pub at : slice_get scripts firsts.script ≡ Some script
  pub terminal : firsts.terminal < terminal_count line
  pub place_is : i ≡ place line firsts.script firsts.terminal
  pub may : IsFirstMay line script firsts.terminal firsts.may
  pub must : IsFirstMust line script firsts.terminal firsts.must

abbrev pub AreFirsts : Line → List Script → List Firsts → Type 0
AreFirsts line scripts firsts =
    OneEach (AreFirstOf line scripts) (length scripts * terminal_count line) firsts
