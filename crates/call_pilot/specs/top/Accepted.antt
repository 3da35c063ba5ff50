-- The line of a check that accepts.
use Rattle.std.specs.Prelude.{ℕ, List}
use Rattle.std.specs.List.{concat}
use Rattle.cert_claims.specs.text.Grammar.{Verdict}
use Rattle.cert_claims.specs.check.Counts.{counts_in}
use Rattle.call_engine.specs.Checked.{accepted_pieces}

-- `accepted Y N U`, with the counts of these verdicts
abbrev pub counted_line : List Verdict → List ℕ
counted_line verdicts = concat (accepted_pieces (counts_in verdicts))
