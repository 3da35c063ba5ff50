use Rattle.std.proofs.Common.{rules}
use Rattle.model_history.specs.Rails.{rails_and}
use Rattle.run_waves.proofs.waves_lemmas.GateLaws.{zero_decides_and, one_leaves_and}
use Rattle.run_waves.proofs.waves.gates.and.Goals as goal

pub returns : goal.returns
returns c = c.combined.ensures rails_and (λ x y z told. search rules) zero_decides_and one_leaves_and
