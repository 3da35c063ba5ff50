use Rattle.std.proofs.Common.{inr}
use Rattle.std.proofs.lemmas.Result.{IfOk-weaker}
use Rattle.call_lint.specs.lint.Outcomes.{IsLinted, IsScriptsLinted}
use Rattle.call_lint.proofs.lint.line.lint_line.Goals as goal

pub returns-in-Ok : goal.returns-in-Ok
returns-in-Ok c = IfOk-weaker c.lint_scripts.result
    (λ linted. IsScriptsLinted c.in-Ok.own c.args.scripts.now linted.outcome)
    (λ linted. IsLinted c.args.line.now c.args.scripts.now linted.outcome)
    (λ linted told. inr (c.in-Ok.own, c.in-Ok.ensures, told))
    c.lint_scripts.ensures
