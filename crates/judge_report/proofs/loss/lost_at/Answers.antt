use Rattle.std.proofs.Common.{ℕ, Option, subst}
use Rattle.std.proofs.lemmas.Result.{IfOk-weaker}
use Rattle.model_logic.specs.Choice.{declared_box}
use Rattle.model_line.specs.WithBounds.{IsWithBounds}
use Rattle.judge_report.specs.{declared.upper_end.Lost.Lost, Raised.raised, Lost.IsLoss}
use Rattle.judge_report.proofs.LossLaws.{loss_moved}
use Rattle.judge_report.proofs.loss.lost_at.Goals as goal

pub returns : goal.returns
returns c =
    let line = c.args.compiled.now.line.now in
    let scripts = c.args.scripts.now in
    let other = c.in_ok-other.other in
    IfOk-weaker c.first_lost.result (λ (o : Option Lost). IsLoss other scripts (declared_box other) o)
    (λ (o : Option Lost). IsLoss line scripts (raised line c.args.param c.args.greatest) o)
    (λ o is. loss_moved c.laws_below.ensures line other c.args.param c.args.greatest
    c.requires.exists
    (subst (λ (n : ℕ). IsWithBounds line c.args.param n c.args.greatest other) c.least.ensures.number
    c.in_ok-other.ensures) scripts o is)
    c.first_lost.ensures
