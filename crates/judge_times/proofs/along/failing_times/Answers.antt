use Rattle.std.proofs.Common.{◌≡◌, ◌∙◌, List, sym, subst, ap}
use Rattle.model_history.specs.Rails.{Ends}
use Rattle.model_history.specs.ListLaws.{all_at, at_index}
use Rattle.judge_times.specs.{Along.times_at, Answers.IsAnswer, Stretches.FailsThere}
use Rattle.judge_times.proofs.Places.{fails_there}
use Rattle.judge_times.proofs.along.failing_times.Goals as goal

pub returns-then-fails_here : goal.returns-then-fails_here
returns-then-fails_here c = λ of whole all.
    let part = c.part-item.result in
    let k = c.args.terminal in
    let t = c.args.t in
    let i = c.loop-part.part-index in
    let at = at_index c.args.parts.now i part c.loop-part-test.true c.part-item.is in
    let answer : IsAnswer of whole part = all_at (IsAnswer of whole) c.args.parts.now i part all at in
    let made : c.in_ok-times.times.items ≡ times_at part.lengths.items t =
    c.in_ok-times.ensures ∙ ap (λ (l : List Ends). times_at l t) c.as_slice.ensures.value in
    subst (FailsThere of whole k t) (sym made)
    (fails_there c.what_is_known_of_a_part_is_known_within.ensures of whole part k t answer
    (sym c.fails_here.ensures ∙ c.if-fails_here.true))
