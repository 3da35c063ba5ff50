use Rattle.run_signal.specs.Terns.{tern_rails}
use Rattle.run_signal.specs.TernLaws.{tern_sound}
use Rattle.run_signal.proofs.RailsLaws.{rails_skipped}
use Rattle.run_signal.proofs.timed_tern.TernTimed.skip.Goals as goal

pub returns : goal.returns
returns c = λ pickup dropout lane inputs inside.
    rails_skipped c.args.cells.now.must c.args.cells.now.may c.skip.new.self c.skip-2.new.self
    pickup dropout inputs (tern_rails c.args.input) c.must.result c.may.result
    c.args.count (tern_sound c.args.input) c.requires.some
    c.must.ensures c.may.ensures c.skip.ensures c.skip-2.ensures
