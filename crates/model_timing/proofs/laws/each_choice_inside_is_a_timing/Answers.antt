use Rattle.model_logic.specs.Choice.{Choice, DelaysFromOne}
use Rattle.model_timing.specs.Choice.{timing_choice, IsSameChoice}
use Rattle.model_timing.proofs.ChoiceInside.{choice_inside}
use Rattle.model_timing.proofs.ChoiceSteps.{timing_of, timing_ascends, timing_inside, timing_same}
use Rattle.model_timing.proofs.SameHistories.{same_history, same_other_way}
use Rattle.model_timing.proofs.laws.each_choice_inside_is_a_timing.Goals as goal

pub returns : goal.returns
returns c = record {
  choice = λ line choice inside. (
    timing_of line choice,
    timing_inside line choice c.delays_are_parameters.ensures inside,
    timing_ascends line choice c.settings_are_counted.ensures,
    timing_same line choice c.settings_are_counted.ensures,
  );
  histories = λ line choice inside.
      let played : Choice = timing_choice line (timing_of line choice) in
      let from_choice : DelaysFromOne line choice = c.each_line_has_a_choice_inside.ensures.choices line choice inside in
      let from_played : DelaysFromOne line played =
      c.each_line_has_a_choice_inside.ensures.choices line played
      (choice_inside line (timing_of line choice) (timing_inside line choice c.delays_are_parameters.ensures inside)) in
      let same : IsSameChoice line choice played = timing_same line choice c.settings_are_counted.ensures in (
        timing_of line choice,
        timing_inside line choice c.delays_are_parameters.ensures inside,
        timing_ascends line choice c.settings_are_counted.ensures,
        λ script h. (
          same_history c.elements_read_the_past.ensures c.trees_name_the_line.ensures line script choice played from_choice from_played same h,
          same_history c.elements_read_the_past.ensures c.trees_name_the_line.ensures line script played choice from_played from_choice
              (same_other_way line choice played same) h,
        ),
      );
}
