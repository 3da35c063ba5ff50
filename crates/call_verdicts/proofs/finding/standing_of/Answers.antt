use Rattle.std.proofs.Common.{subst}
use Rattle.judge_settle.specs.settle.Answers.{IsAnswer}
use Rattle.call_verdicts.proofs.finding.standing_of.Goals as goal

pub returns-in-Held : goal.returns-in-Held
returns-in-Held c = λ line script k is.
    let tree = subst (IsAnswer line script k) c.in-Held.is is in
    tree.meets

pub returns-in-Fails : goal.returns-in-Fails
returns-in-Fails c = λ line script k is.
    (c.in-Fails.timing, subst (IsAnswer line script k) c.in-Fails.is is)

pub returns-in-Open : goal.returns-in-Open
returns-in-Open c = λ line script k is.
    let tree = subst (IsAnswer line script k) c.in-Open.is is in
    record { earned = tree.earned; mixed = tree.mixed }
