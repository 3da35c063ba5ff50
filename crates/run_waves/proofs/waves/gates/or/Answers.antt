use Rattle.std.proofs.Common.{rules}
use Rattle.model_history.specs.Rails.{rails_or}
use Rattle.run_waves.proofs.waves_lemmas.GateLaws.{one_decides_or, zero_leaves_or}
use Rattle.run_waves.proofs.waves.gates.or.Goals as goal

pub returns : goal.returns
returns c = c.combined.ensures rails_or (λ x y z told. search rules) one_decides_or zero_leaves_or
