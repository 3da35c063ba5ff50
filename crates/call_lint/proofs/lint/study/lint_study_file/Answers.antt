use Rattle.std.proofs.Common.{inr, map}
use Rattle.std.proofs.lemmas.Result.{IfOk-weaker}
use Rattle.file_study.specs.study.Faults.{fault_values}
use Rattle.call_lint.specs.lint.Outcomes.{IsFaultsLinted, IsStudyLinted}
use Rattle.call_lint.proofs.lint.study.lint_study_file.Goals as goal

pub returns-in-Ok-clause-found : goal.returns-in-Ok-clause-found
returns-in-Ok-clause-found c = IfOk-weaker c.lint_faults.result
    (λ linted. IsFaultsLinted c.in-Ok.study.line
    (map fault_values c.in-Ok.study.faults.items) linted.outcome)
    (λ linted. IsStudyLinted c.args.bytes.now linted.outcome)
    (λ linted told. inr (c.in-Ok.study, c.in-Ok.ensures, told))
    c.lint_faults.ensures.found
