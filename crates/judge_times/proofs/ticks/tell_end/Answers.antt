use Rattle.std.proofs.Common.{◌∙◌, List, sym, subst}
use Rattle.std.proofs.lemmas.Result.{IfOk-weaker}
use Rattle.model_history.specs.Rails.{Ends}
use Rattle.judge_borders.specs.{Halves.AreWithin, Parts.IsPart}
use Rattle.judge_times.specs.Answers.{AreFailing}
use Rattle.judge_times.proofs.Leasts.{end_part, end_within}
use Rattle.judge_times.proofs.ticks.tell_end.Goals as goal

pub fails_at-requires-clause-part : goal.fails_at-requires-clause-part
fails_at-requires-clause-part c =
    subst IsPart (sym (c.as_slice.ensures.value ∙ c.in_ok-end.ensures))
    (end_part c.args.late c.args.part.now c.requires.part)

pub returns : goal.returns
returns c =
    let same = c.as_slice-2.ensures.value ∙ c.in_ok-end.ensures in
    let within : AreWithin c.args.part.now c.as_slice-2.result.now =
    subst (AreWithin c.args.part.now) (sym same) (end_within c.args.late c.args.part.now c.requires.part) in
    let ordered : IsPart c.as_slice-2.result.now =
    subst IsPart (sym same) (end_part c.args.late c.args.part.now c.requires.part) in
    IfOk-weaker c.push_failing.result _ _
    (λ u grew. (
      grew.0,
      grew.1,
      grew.2 c.args.of.now c.args.part.now ordered within
          (c.what_is_known_of_a_part_is_known_within.ensures.rules c.args.of.now.fault c.args.part.now
          c.as_slice-2.result.now c.args.rules.now within c.requires.rules)
          (subst (AreFailing c.args.of.now c.as_slice-2.result.now) (sym c.as_slice-3.ensures.value)
          (subst (λ (l : List Ends). AreFailing c.args.of.now l c.in_ok-fails.fails.items)
          (c.as_slice.ensures.value ∙ sym c.as_slice-2.ensures.value) c.in_ok-fails.ensures)),
    ))
    c.push_failing.ensures
