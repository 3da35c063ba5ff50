use Rattle.run_waves.proofs.waves_lemmas.WaveLaws.{ticks_more, new_length}
use Rattle.run_waves.proofs.waves.laws.waves_grow.Goals as goal

pub returns : goal.returns
returns c = record { ticks = ticks_more; long = new_length }
