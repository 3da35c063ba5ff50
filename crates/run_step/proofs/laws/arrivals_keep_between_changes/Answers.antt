use Rattle.run_step.specs.DelayLaws.{arrivals_keep}
use Rattle.run_step.proofs.laws.arrivals_keep_between_changes.Goals as goal

pub returns : goal.returns
returns c = λ key ends t n least greatest. arrivals_keep c.history_laws.ensures key t n ends least greatest
