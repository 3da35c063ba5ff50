use Rattle.std.proofs.Common.{◌≢◌, ◌<◌, ℕ}
use Rattle.model_settle.specs.Assumed.{HasSpan}
use Rattle.judge_cases.specs.AssumedAt.{span_at}
use Rattle.cert_settle.specs.Grammar.{span_line, name_of_terminal}
use Rattle.cert_settle.proofs.branch_line.span_in.Given as goal

-- none of the terminals so far
abbrev pub invariant-loop-k : goal.invariant-loop-k
invariant-loop-k l =
    (terminal : ℕ) → terminal < l.k → (from to : ℕ) → HasSpan l.line (span_at terminal from to)
    → l.bytes ≢ span_line (name_of_terminal l.line terminal) from to
