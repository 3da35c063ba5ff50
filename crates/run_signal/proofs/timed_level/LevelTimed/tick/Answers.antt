use Rattle.std.proofs.Common.{◌∙◌, ap, arith, ◌≤◌}
use Rattle.model_history.specs.Rails.{both, single}
use Rattle.run_signal.specs.Levels.{level_rails}
use Rattle.run_signal.specs.LevelLaws.{level_sound, one_rail}
use Rattle.run_signal.proofs.RailsLaws.{rails_skipped, rails_answer}
use Rattle.run_signal.proofs.timed_level.LevelTimed.tick.Goals as goal

pub returns-clause-stands : goal.returns-clause-stands
returns-clause-stands c = λ pickup dropout lane inputs inside.
    let some : 1 ≤ 1 = omega arith in
    rails_skipped c.args.cells.now c.args.cells.now c.tick.new.self c.tick.new.self
    (single pickup) (single dropout) inputs (level_rails c.args.input) c.must.result c.must.result
    1 (level_sound c.args.input) some
    c.must.ensures (c.must.ensures ∙ one_rail c.args.input)
    c.tick.ensures.numbers c.tick.ensures.numbers

pub returns-clause-timed : goal.returns-clause-timed
returns-clause-timed c = λ pickup dropout lane inputs inside h.
    c.known.ensures lane inside
    ∙ ap both c.tick.ensures.answer
    ∙ rails_answer c.history_laws.ensures c.tick.new.self c.tick.new.self (single pickup) (single dropout) inputs
    (level_rails c.args.input) (returns-clause-stands c pickup dropout lane inputs inside h)
