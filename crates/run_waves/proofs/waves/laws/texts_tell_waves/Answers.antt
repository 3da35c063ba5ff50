use Rattle.std.proofs.Common.{◌≡◌, length, sym, ◌∙◌, ap, arith}
use Rattle.run_waves.specs.{waves.Waves.levels_of, waves.Text.runs_of}
use Rattle.run_waves.proofs.{waves_lemmas.LongestRuns.levels_of-runs_of, waves_lemmas.TextLaws.items_tell}
use Rattle.run_waves.proofs.waves.laws.texts_tell_waves.Goals as goal

pub returns : goal.returns
returns c = λ wave other short brief same.
    let levels = levels_of-runs_of wave in
    let others = levels_of-runs_of other in
    let runs : runs_of wave ≡ runs_of other =
    items_tell (runs_of wave) (runs_of other) (omega (arith, ap length levels))
    (omega (arith, ap length others)) same in
    sym levels ∙ ap levels_of runs ∙ others
