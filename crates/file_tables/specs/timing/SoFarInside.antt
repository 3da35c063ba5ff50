-- The timings so far are inside the declared intervals.
use Rattle.std.specs.Prelude.{IfSome}
use Rattle.std.specs.List.{All}
use Rattle.model_line.specs.declared.line.Line.{Line}
use Rattle.model_timing.specs.{Inside.IsTimingInside}
use Rattle.model_timing.specs.NamedValues.{NamedValues}
use Rattle.file_tables.specs.timing.SoFar.{TimingsSoFar}

abbrev pub IsNamedInside : Line → NamedValues → Type 0
IsNamedInside line v = IsTimingInside line v.timing

-- each timing so far is inside
pub record IsSoFar (line : Line) (s : TimingsSoFar) : Type 0 where
  pub done : All (IsNamedInside line) s.done
  pub latest : IfSome s.latest (λ t. IsTimingInside line t.timing)
