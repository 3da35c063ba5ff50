use Rattle.model_logic.specs.Choice.{Choice, DelaysFromOne}
use Rattle.model_timing.specs.Choice.{timing_choice}
use Rattle.run_step.proofs.PlayLaws.{timing_point, timing_delayed}
use Rattle.run_step.proofs.laws.a_timing_is_one_choice.Goals as goal

pub returns-clause-point : goal.returns-clause-point
returns-clause-point c = λ line timing lane inside.
    timing_point c.line_laws.ensures line timing lane inside.count

pub returns-clause-delayed : goal.returns-clause-delayed
returns-clause-delayed c = λ line timing inside.
    timing_delayed c.line_laws.ensures line timing inside
    (c.line_laws.ensures.inside.choices line (timing_choice line timing)
    (c.timings_inside_are_choices_inside.ensures line timing inside))

pub returns-clause-choice : goal.returns-clause-choice
returns-clause-choice c = λ line timing inside.
    c.line_laws.ensures.inside.choices line (timing_choice line timing)
    (c.timings_inside_are_choices_inside.ensures line timing inside)

pub returns-clause-history : goal.returns-clause-history
returns-clause-history c = λ line script timing inside.
    let choice : Choice = timing_choice line timing in
    let delays : DelaysFromOne line choice =
    c.line_laws.ensures.inside.choices line choice
    (c.timings_inside_are_choices_inside.ensures line timing inside) in
    let (h, is) = c.line_laws.ensures.histories.exists line script choice delays in (
      h,
      is,
      λ other is_other.
          c.line_laws.ensures.histories.only line script choice h other delays is is_other,
    )
