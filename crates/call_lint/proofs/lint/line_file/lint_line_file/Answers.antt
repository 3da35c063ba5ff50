use Rattle.std.proofs.Common.{inr}
use Rattle.std.proofs.lemmas.Result.{IfOk-weaker}
use Rattle.call_lint.specs.lint.Outcomes.{IsLineLinted, IsTimesLinted}
use Rattle.call_lint.proofs.lint.line_file.lint_line_file.Goals as goal

pub returns-in-Ok-clause-found : goal.returns-in-Ok-clause-found
returns-in-Ok-clause-found c = IfOk-weaker c.lint_times.result
    (λ linted. IsTimesLinted c.in-Ok.own linted.outcome)
    (λ linted. IsLineLinted c.args.bytes.now linted.outcome)
    (λ linted told. inr (c.in-Ok.own, c.in-Ok.ensures, told))
    c.lint_times.ensures.found
