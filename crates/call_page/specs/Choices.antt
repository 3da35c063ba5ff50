-- What fails, and what is open.
use Rattle.std.specs.Prelude.{◌≡◌, ◌≤◌, ◌<◌, ◌+◌, ◌-◌, ◌==◌, ◌&&◌, ◌||◌, ℕ, Bool, false, not, List, map}
use Rattle.std.specs.Prelude.{Option, None, Some, IsTrue, IsFalse, length, slice_get}
use Rattle.std.specs.List.{list_any}
use Rattle.model_line.specs.{declared.line.Line.Line, declared.script.Script.Script}
use Rattle.model_line.specs.Parameters.{param_count}
use Rattle.model_line.specs.NamesByNumber.{parameter_name, script_name, terminal_name}
use Rattle.model_timing.specs.Timing.{TimingValues}
use Rattle.judge_settle.specs.corner.Cuts.{IsCut}
use Rattle.draw_page.specs.declared.page.FailingChoice.{FailingChoice}
use Rattle.draw_page.specs.declared.page.Undecided.{Undecided}
use Rattle.call_tables.specs.{declared.row.Row.Row, Table.fails_for_every, Table.is_failing}
use Rattle.call_tables.specs.Table.{is_open}
use Rattle.call_page.specs.declared.parts.Part.{Part}
use Rattle.call_facts.specs.{Drawings.IsPlayOf, Lists.At, Lists.EachOf, Lists.if_one}
use Rattle.call_facts.specs.FirstTicks.{place}
use Rattle.call_facts.specs.Told.{IsToldTime, IsToldStep, is_told, is_at_least}
use Rattle.call_facts.specs.Lists.{those_below}
use Rattle.call_why.specs.Reasons.{IsToldWhy}

-- ---- stretches of scripts that fail

abbrev pub fails_in : Option Row → Bool
fails_in None = false
fails_in (Some row) = is_failing row

-- the obligation of script s at terminal k fails
abbrev pub fails_at : Line → List Row → ℕ → ℕ → Bool
fails_at line rows s k = fails_in (slice_get rows (place line s k))

-- a fault begins with script s
abbrev pub is_first : List Part → ℕ → Bool
is_first parts s = list_any (λ part. part.start == s) parts

-- no script of its fault stands before it that fails there too
abbrev pub begins : Line → List Part → List Row → ℕ → ℕ → Bool
begins line parts rows s k = is_first parts s || not (fails_at line rows (s - 1) k)

-- it is of the fault of the script before, and fails
abbrev pub goes_on : Line → List Part → List Row → ℕ → ℕ → Bool
goes_on line parts rows s k = not (is_first parts s) && fails_at line rows s k

-- from script s on so many go on, and no more
pub record IsStretch (line : Line) (scripts : ℕ) (parts : List Part) (rows : List Row) (s k count : ℕ)
    : Type 0 where
  pub some : 1 ≤ count
  pub within : s + count ≤ scripts
  pub all : (j : ℕ) → 1 ≤ j → j < count → IsTrue (goes_on line parts rows (s + j) k)
  pub ends : s + count < scripts → IsFalse (goes_on line parts rows (s + count) k)

-- the obligations that fail and begin a stretch, and those that are open, in order
abbrev pub failing_row : Line → List Part → List Row → Row → List Row
failing_row line parts rows row =
    if_one (is_failing row && begins line parts rows row.script row.terminal) row

abbrev pub open_row : Row → List Row
open_row row = if_one (is_open row) row

-- ---- a choice that fails

-- the fault with this number is the one whose scripts this is one of
abbrev pub IsFaultOfScript : List Part → ℕ → ℕ → Type 0
IsFaultOfScript parts s fault =
    At parts fault (λ p. (p.start ≤ s) × (s < p.start + p.count))

-- a timing that fails the script's obligation, cut to what matters: the numbers that matter, those
-- that stand at their least, and the steps; all others stand in the middle of their intervals. And
-- its play. Why it fails is what `study why` says of a cut of the same timing.
pub record IsChoiceFor (line : Line) (script : Script) (k : ℕ) (c : FailingChoice) : Type 0 where
  pub whole : TimingValues
  pub cut : TimingValues
  pub is_cut : IsCut line script k whole cut
  pub why : IsToldWhy line script k whole c.every c.why.items
  pub told : EachOf (IsToldTime line cut) (those_below (is_told line cut) (param_count line))
      c.told.items
  pub least : map (λ name. name.items) c.least.items
      ≡ map (parameter_name line) (those_below (is_at_least line cut) (param_count line))
  pub steps : EachOf (IsToldStep line) cut.steps c.steps.items
  pub play : IsPlayOf line script (record { name = terminal_name line k; timing = cut }) c.play

-- of the first script of a stretch, with how many there are and the name of the last
pub record IsChoiceOf (line : Line) (scripts : List Script) (parts : List Part) (rows : List Row)
    (row : Row) (c : FailingChoice) : Type 0 where
  pub fault : IsFaultOfScript parts row.script c.fault
  pub script : At scripts row.script (λ s. c.script.items ≡ s.name)
  pub terminal : c.terminal.items ≡ terminal_name line row.terminal
  pub stretch : IsStretch line (length scripts) parts rows row.script row.terminal c.scripts
  pub last : c.last.items ≡ script_name scripts (row.script + c.scripts - 1)
  pub every : c.every ≡ fails_for_every row.settled.answer
  pub choice : At scripts row.script (λ s. IsChoiceFor line s row.terminal c)

-- ---- what is open

pub record IsUndecidedOf (line : Line) (scripts : List Script) (parts : List Part) (row : Row)
    (u : Undecided) : Type 0 where
  pub fault : IsFaultOfScript parts row.script u.fault
  pub script : u.script.items ≡ script_name scripts row.script
  pub terminal : u.terminal.items ≡ terminal_name line row.terminal
