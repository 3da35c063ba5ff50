-- Whether the history at a timing fails an obligation, or meets it.
use Rattle.std.specs.Prelude.{◌<◌, ℕ, Bool, IsTrue, IsFalse}
use Rattle.model_line.specs.{declared.line.Line.Line, declared.script.Script.Script}
use Rattle.model_logic.specs.Histories.{History, IsLineHistory, Meets}
use Rattle.model_timing.specs.{Timing.TimingValues, Inside.IsTimingInside, Choice.timing_choice}
use Rattle.judge_settle.specs.corner.Decided.{Fails}

-- the history at the timing fails the obligation
abbrev pub FailsAt : Line → Script → ℕ → TimingValues → Type 0
FailsAt line script k timing = Fails line script k timing

-- it meets it: there is one history, so these are opposites
abbrev pub PassesAt : Line → Script → ℕ → TimingValues → Type 0
PassesAt line script k timing = (h : History)
    → IsLineHistory line script (timing_choice line timing) h → Meets line script k h

-- the timing is inside the declared intervals, and its history fails the obligation
pub record FailsInside (line : Line) (script : Script) (k : ℕ) (timing : TimingValues)
    : Type 0 where
  pub inside : IsTimingInside line timing
  pub fails : FailsAt line script k timing

-- it is told whether it fails
pub record TellsFailing (line : Line) (script : Script) (k : ℕ) (timing : TimingValues)
    (told : Bool) : Type 0 where
  pub fails : IsTrue told → FailsAt line script k timing
  pub passes : IsFalse told → PassesAt line script k timing

-- a signal is on at some of the first ticks
abbrev pub SomeTickIsOn : (ℕ → Bool) → ℕ → Type 0
SomeTickIsOn u ticks = (t : ℕ) × (t < ticks) × IsTrue (u t)
