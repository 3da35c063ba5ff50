use Rattle.call_pilot.proofs.commands_lemmas.PlayTexts.{play_exists, play_once}
use Rattle.call_pilot.proofs.commands.laws.each_play_has_one_text.Goals as goal

pub returns-clause-exists : goal.returns-clause-exists
returns-clause-exists c =
    play_exists c.each_choice_has_one_history.ensures.exists
    c.each_choice_has_one_history.ensures.only c.each_line_has_a_choice_inside.ensures.choices
    c.timings_inside_are_choices_inside.ensures

pub returns-clause-only : goal.returns-clause-only
returns-clause-only c =
    play_once c.each_choice_has_one_history.ensures.exists
    c.each_choice_has_one_history.ensures.only c.each_line_has_a_choice_inside.ensures.choices
    c.timings_inside_are_choices_inside.ensures
