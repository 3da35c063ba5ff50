use Rattle.std.proofs.Common.{sym, subst}
use Rattle.std.specs.Prelude.{IfOk}
use Rattle.call_shots.specs.Choices.{IsPlayedAt}
use Rattle.call_verdicts.specs.declared.finding.Standing.{Standing}
use Rattle.call_shots.proofs.choice.choice_at.Goals as goal

pub returns-in-Fails : goal.returns-in-Fails
returns-in-Fails c =
    subst (λ (s : Standing). IfOk c.failing_choice.result
    (IsPlayedAt c.args.compiled.now.line.now c.args.script.now c.args.shot.now.terminal s))
    (sym c.in-Fails.is) c.failing_choice.ensures

pub returns-in-Held : goal.returns-in-Held
returns-in-Held c =
    subst (λ (s : Standing). IfOk c.worst_choice.result
    (IsPlayedAt c.args.compiled.now.line.now c.args.script.now c.args.shot.now.terminal s))
    (sym c.in-Held.is) c.worst_choice.ensures

pub returns-in-Open : goal.returns-in-Open
returns-in-Open c =
    subst (λ (s : Standing). IfOk c.worst_choice-in-Open.result
    (IsPlayedAt c.args.compiled.now.line.now c.args.script.now c.args.shot.now.terminal s))
    (sym c.in-Open.is) c.worst_choice-in-Open.ensures
