-- Fine histories that agree with what is assumed: that a weak terminal wants an echo throughout a span
-- of ticks, or does not at some instant of it.
use Rattle.std.specs.Prelude.{◌≤◌, ◌<◌, ◌*◌, ℕ, Bool, IsTrue, IsFalse, All, List}
use Rattle.model_line.specs.{declared.line.Line.Line, declared.script.Script.Script}
use Rattle.model_logic.specs.Choice.{Choice}
use Rattle.model_logic.specs.{Histories.History, Mean.mean}
use Rattle.model_settle.specs.Assumed.{Assumption, Throughout, Interrupted, Span, wanted}
use Rattle.model_fine.specs.Fine.{fine_world_of}

-- whether the terminal of a span wants an echo, fine tick by fine tick
abbrev pub wants : ℕ → Line → Script → Choice → History → Span → ℕ → Bool
wants n line script choice h span =
    mean (fine_world_of n line script choice) h.key (wanted line span.terminal)

abbrev pub IsThroughout : ℕ → Line → Script → Choice → History → Span → Type 0
IsThroughout n line script choice h span =
    (at : ℕ) → span.from * n ≤ at → at < span.to * n → IsTrue (wants n line script choice h span at)

pub record IsInterrupted (n : ℕ) (line : Line) (script : Script) (choice : Choice) (h : History)
    (span : Span) : Type 0 where
  pub at : ℕ
  pub from : span.from * n ≤ at
  pub to : at < span.to * n
  pub off : IsFalse (wants n line script choice h span at)

-- a fine history agrees with an assumption, and with each of several
abbrev pub Agrees : ℕ → Line → Script → Choice → History → Assumption → Type 0
Agrees n line script choice h (Throughout span) = IsThroughout n line script choice h span
Agrees n line script choice h (Interrupted span) = IsInterrupted n line script choice h span

abbrev pub AgreesWithAll : ℕ → Line → Script → Choice → History → List Assumption → Type 0
AgreesWithAll n line script choice h assumed = All (Agrees n line script choice h) assumed
