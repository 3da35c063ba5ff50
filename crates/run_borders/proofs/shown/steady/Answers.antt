use Rattle.std.proofs.Common.{arith}
use Rattle.model_history.specs.Rails.{both}
use Rattle.run_waves.specs.waves.LevelLaws.{one_level}
use Rattle.run_borders.proofs.shown.steady.Goals as goal

pub returns : goal.returns
returns c =
    one_level c.waves_grow.ensures c.new-wave.result c.push.new.self c.known.result c.args.horizon
    (λ t. both c.args.value) c.new-wave.ensures c.in_ok-push.ensures
    (λ k early. c.known.ensures 0 (omega arith))
