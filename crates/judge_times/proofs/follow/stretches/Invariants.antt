use Rattle.std.proofs.Common.{◌≡◌, ◌≤◌, get_or}
use Rattle.std.specs.List.{All}
use Rattle.model_history.specs.Rails.{single}
use Rattle.judge_times.specs.Answers.{AreAnswers}
use Rattle.judge_times.specs.Stretches.{FollowFrom, IsStretch}
use Rattle.judge_times.specs.declared.fault.Uncertain.{Uncertain}
use Rattle.judge_times.proofs.follow.stretches.Given as goal

abbrev pub invariant-loop-t : goal.invariant-loop-t
invariant-loop-t l =
    (_ : l.last.to ≡ l.t)
    × (_ : l.t ≤ (get_or l.whole 0 (single 0)).greatest)
    × (_ : FollowFrom (get_or l.whole 0 (single 0)).least l.found.items l.last.from)
    × ((of : Uncertain) → AreAnswers of l.whole l.parts
    → All (IsStretch of l.whole l.terminal) l.found.items × IsStretch of l.whole l.terminal l.last)
