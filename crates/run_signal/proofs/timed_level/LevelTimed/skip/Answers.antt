use Rattle.std.proofs.Common.{◌∙◌}
use Rattle.model_history.specs.Rails.{single}
use Rattle.run_signal.specs.Levels.{level_rails}
use Rattle.run_signal.specs.LevelLaws.{level_sound, one_rail}
use Rattle.run_signal.proofs.RailsLaws.{rails_skipped}
use Rattle.run_signal.proofs.timed_level.LevelTimed.skip.Goals as goal

pub returns : goal.returns
returns c = λ pickup dropout lane inputs inside.
    rails_skipped c.args.cells.now c.args.cells.now c.skip.new.self c.skip.new.self
    (single pickup) (single dropout) inputs (level_rails c.args.input) c.must.result c.must.result
    c.args.count (level_sound c.args.input) c.requires.some
    c.must.ensures (c.must.ensures ∙ one_rail c.args.input) c.skip.ensures c.skip.ensures
