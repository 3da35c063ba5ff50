-- A span and an assumption from their parts.
use Rattle.std.specs.Prelude.{ℕ, Bool, true, false}
use Rattle.model_settle.specs.Assumed.{Span, Assumption, Throughout, Interrupted}

abbrev pub span_at : ℕ → ℕ → ℕ → Span
span_at terminal from to = record { terminal = terminal; from = from; to = to }

-- throughout the span, or not at some instant of it
abbrev pub assumed_at : ℕ → ℕ → ℕ → Bool → Assumption
assumed_at terminal from to true = Throughout (span_at terminal from to)
assumed_at terminal from to false = Interrupted (span_at terminal from to)
