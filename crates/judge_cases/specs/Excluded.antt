-- Assumptions that the values of a run exclude.
use Rattle.std.specs.Prelude.{◌≡◌, ◌<◌, ◌≤◌, ℕ, IsFalse, List, Contains, length}
use Rattle.model_line.specs.declared.line.Line.{Line}
use Rattle.model_settle.specs.Assumed.{Assumption, Throughout, Interrupted, Span, wanted}
use Rattle.net_gates.specs.{NetOf.NetOf, Formulas.formula_of}
use Rattle.run_ticks.specs.cases.UnderWaves.{UnderWavesOf, own_wave}
use Rattle.judge_verdict.specs.declared.boxes.terns.Terns64.{Terns64}
use Rattle.judge_verdict.specs.boxes.Terns.{terns_rails}
use Rattle.judge_cases.specs.declared.view.View.{View}

-- in a lane, at a tick, each gate that the echo of a terminal starts from cannot be on by its own rule
abbrev pub IsOffAt : Line → NetOf → ℕ → UnderWavesOf Terns64 → ℕ → ℕ → Type 0
IsOffAt line net lane waves k tick =
    (gate : ℕ) → gate < length net.gates → formula_of net.gates gate ≡ wanted line k
    → IsFalse (own_wave terns_rails lane waves gate tick).may

-- at some tick of the span it cannot
pub record IsOffIn (line : Line) (net : NetOf) (lane : ℕ) (waves : UnderWavesOf Terns64)
    (span : Span) : Type 0 where
  pub tick : ℕ
  pub from : span.from ≤ tick
  pub to : tick < span.to
  pub off : IsOffAt line net lane waves span.terminal tick

-- an echo is assumed to be wanted throughout a span, and cannot be
abbrev pub ExcludedIn : Line → NetOf → ℕ → UnderWavesOf Terns64 → Assumption → Type 0
ExcludedIn line net lane waves (Throughout span) = IsOffIn line net lane waves span
ExcludedIn line net lane waves (Interrupted span) = ⊥

-- one of the assumptions is excluded in a lane
pub record OneExcluded (line : Line) (net : NetOf) (assumed : List Assumption) (lane : ℕ)
    (waves : UnderWavesOf Terns64) : Type 0 where
  pub one : Assumption
  pub is : Contains assumed one
  pub excluded : ExcludedIn line net lane waves one

-- one of those of a view
abbrev pub OneIsExcluded : Line → NetOf → View → ℕ → UnderWavesOf Terns64 → Type 0
OneIsExcluded line net view lane waves = OneExcluded line net view.assumed.items lane waves
