use Rattle.std.proofs.Common.{arith}
use Rattle.run_waves.proofs.waves_lemmas.WaveLaws.{rails_along}
use Rattle.run_waves.proofs.waves.runs.Runs.at.Goals as goal

pub returns-clause-rails : goal.returns-clause-rails
returns-clause-rails c =
    rails_along c.args.self.now c.cursor-cursor.result c.stretch.result.level c.args.t
    c.stretch.result.end c.args.t c.cursor-cursor.ensures c.stretch.ensures.level (omega arith)
    c.stretch.ensures.later
