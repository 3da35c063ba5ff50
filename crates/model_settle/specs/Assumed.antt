-- What is assumed of a history: that a weak terminal wants an echo throughout a span of ticks, or does
-- not want one at some instant of it. One of both is so of every history, in whole ticks and in any
-- parts of them.
use Rattle.std.specs.Prelude.{◌≤◌, ◌<◌, ◌+◌, ◌&&◌, ℕ, Bool, true, false, IsTrue, List, [], ◌∷◌, All}
use Rattle.std.specs.Prelude.{Option, None, Some, nat_le, nat_lt, if◌then◌else◌}
use Rattle.model_line.specs.declared.line.Line.{Line}
use Rattle.model_line.specs.declared.line.Setting.TheVariants.{EchoPulse}
use Rattle.model_line.specs.Parameters.{terminal_count}
use Rattle.model_logic.specs.Choice.{Box, ends_by}
use Rattle.model_logic.specs.Elements.{is_weak}
use Rattle.model_logic.specs.Permissive.{echo_wanted, permission, terminal_setting}
use Rattle.model_logic.specs.SameTree.{same_tree}
use Rattle.model_logic.specs.Tree.{Tree, Timer}
use Rattle.model_logic.specs.declared.time.Time.TheVariants.{Zero}

-- what the echo of terminal k starts from, and its trip as a weak infeed (WANT)
abbrev pub wanted : Line → ℕ → Tree
wanted line k = echo_wanted line k (permission line k)

-- an echo has been wanted for as long as its pulse lasts, and is over
abbrev pub pulse_over : Line → ℕ → Tree
pulse_over line k = Timer (wanted line k) (terminal_setting line k EchoPulse) Zero

-- the ticks from `from` on, before `to`, at a terminal
pub record Span : Type 0 where
  pub terminal : ℕ
  pub from : ℕ
  pub to : ℕ

-- cases can be told apart over it: the terminal is a weak one of the line, and the span has a tick and
-- ends with the run or before
pub record HasSpan (line : Line) (span : Span) : Type 0 where
  pub exists : span.terminal < terminal_count line
  pub weak : IsTrue (is_weak line span.terminal)
  pub some : span.from < span.to
  pub run : span.to ≤ line.horizon

-- the terminal wants an echo at each instant of the span; it does not at some instant of it
pub data Assumption : Type 0 where
  Throughout : (span : Span) → Assumption
  Interrupted : (span : Span) → Assumption

abbrev pub span_of : Assumption → Span
span_of (Throughout span) = span
span_of (Interrupted span) = span

-- cases can be told apart over the span of each of these
abbrev pub HaveSpans : Line → List Assumption → Type 0
HaveSpans line assumed = All (λ a. HasSpan line (span_of a)) assumed

-- ---- the levels that follow

-- the least time that an echo of terminal k lasts
abbrev pub least_pulse : Line → Box → ℕ → ℕ
least_pulse line box k = (ends_by box.ends (terminal_setting line k EchoPulse)).least

-- the tick is one of those from `from` on, before `to`
abbrev pub is_among : ℕ → ℕ → ℕ → Bool
is_among from to t = nat_le from t && nat_lt t to

-- the level of a tree at a tick that follows from an assumption, if one does: throughout the span an
-- echo is wanted; and where it was not at some instant of the span, no pulse is over from the end of
-- the span on, for as long as a pulse lasts from its begin
abbrev pub level_by : Line → Box → Assumption → Tree → ℕ → Option Bool
level_by line box (Throughout span) x t =
    if same_tree x (wanted line span.terminal) && is_among span.from span.to t then Some true
    else None
level_by line box (Interrupted span) x t =
    if same_tree x (pulse_over line span.terminal)
    && is_among span.to (span.from + least_pulse line box span.terminal) t then Some false
    else None

abbrev pub first_of : Option Bool → Option Bool → Option Bool
first_of (Some level) rest = Some level
first_of None rest = rest

-- and the one that follows from several, the latest of which stands first
abbrev pub assumed_level : Line → Box → List Assumption → Tree → ℕ → Option Bool
assumed_level line box [] x t = None
assumed_level line box (a ∷ before) x t =
    first_of (level_by line box a x t) (assumed_level line box before x t)
