use Rattle.run_step.specs.QuietLaws.{gates_keep}
use Rattle.run_step.proofs.laws.quiet_sources_keep_every_gate.Goals as goal

pub returns : goal.returns
returns c = λ line w keys u t n gates laws named are sources fits.
    gates_keep c.elements_stay_in_a_stretch.ensures line w keys u t n gates laws named are sources fits
