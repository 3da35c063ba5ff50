use Rattle.std.proofs.Common.{sym, subst}
use Rattle.model_timing.specs.Timing.{TimingValues}
use Rattle.judge_settle.specs.corner.Obligations.{StepsMatterIn}
use Rattle.judge_settle.proofs.corner_lemmas.Tries.{round_after, neither_one}
use Rattle.judge_settle.proofs.corner.cutting.round.Goals as goal

pub returns-clause-round : goal.returns-clause-round
returns-clause-round c =
    round_after c.args.of.now c.args.cut.now c.leave_steps.new.cut c.put_numbers.new.cut
    c.in_ok-left.left c.in_ok-moved.moved c.either.result c.in_ok-left.ensures.round
    c.in_ok-moved.ensures.round c.either.ensures

pub returns-clause-matters : goal.returns-clause-matters
returns-clause-matters c = λ off.
    let both = neither_one c.in_ok-left.left c.in_ok-moved.moved c.either.result c.either.ensures off in
    record {
      numbers = c.in_ok-moved.ensures.matter both.1;
      steps = subst (λ (t : TimingValues). StepsMatterIn c.args.of.now t 0)
          (sym (c.in_ok-moved.ensures.round.same both.1)) (c.in_ok-left.ensures.matter both.0);
    }
