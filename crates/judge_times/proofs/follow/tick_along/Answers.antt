use Rattle.std.proofs.Common.{ℕ, List, Option, subst}
use Rattle.std.specs.Prelude.{IfSome, Vec}
use Rattle.std.specs.List.{All}
use Rattle.std.specs.declared.alloc.Global.{Global}
use Rattle.model_history.specs.Rails.{Ends}
use Rattle.judge_times.specs.declared.fault.Uncertain.{Uncertain}
use Rattle.judge_times.specs.{Answers.IsAnswer, Stretches.FailsThere}
use Rattle.judge_times.proofs.Ticked.{fails_alone}
use Rattle.judge_times.proofs.follow.tick_along.Goals as goal

pub returns-in-Some-clause-says : goal.returns-in-Some-clause-says
returns-in-Some-clause-says c = λ of whole are.
    let k = c.args.terminal in
    let t = c.args.t in
    let said = subst (λ (o : Option (Vec ℕ Global)). IfSome o (λ times. (of : Uncertain) (whole : List Ends)
    → All (IsAnswer of whole) c.args.parts.now → FailsThere of whole k t times.items)) c.in-Some.is
    c.in_ok-place.ensures in
    fails_alone of whole k t c.in-Some.place (said of whole are.each)
