use Rattle.run_waves.proofs.waves_lemmas.OneLine.{runs_whole}
use Rattle.run_waves.proofs.waves.line_laws.the_text_of_a_wave_is_one_line.Goals as goal

pub returns : goal.returns
returns c = λ wave short. runs_whole wave short
