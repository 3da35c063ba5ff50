use Rattle.draw_run.proofs.diagram_lemmas.StepLaws.{marks_are_steps}
use Rattle.draw_run.proofs.diagram.delay_steps.marks_are_steps_of_delays.Goals as goal

pub returns : goal.returns
returns c = marks_are_steps
