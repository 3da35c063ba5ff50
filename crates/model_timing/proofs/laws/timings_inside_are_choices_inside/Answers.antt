use Rattle.model_timing.proofs.ChoiceInside.{choice_inside}
use Rattle.model_timing.proofs.laws.timings_inside_are_choices_inside.Goals as goal

pub returns : goal.returns
returns c line timing inside = choice_inside line timing inside
