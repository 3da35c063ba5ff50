use Rattle.model_timing.specs.Choice.{timing_choice}
use Rattle.cert_settle.proofs.TimingFaults.{HaveHistories, no_once, no_refused}
use Rattle.cert_settle.proofs.timing.a_timing_has_one_fault.Goals as goal

have : (c : goal.After-timings_inside_are_choices_inside) → (line : _) (script : _)
    → HaveHistories line script
have c line script timing inside =
    c.each_choice_has_one_history.ensures.exists line script (timing_choice line timing)
    (c.each_line_has_a_choice_inside.ensures.choices line (timing_choice line timing)
    (c.timings_inside_are_choices_inside.ensures line timing inside))

pub returns-clause-one : goal.returns-clause-one
returns-clause-one c = λ line script k timing fault other some any.
    no_once line script (have c line script) k timing fault other some any

pub returns-clause-refused : goal.returns-clause-refused
returns-clause-refused c = λ line script k timing fault first.
    no_refused line script (have c line script) k timing fault first
