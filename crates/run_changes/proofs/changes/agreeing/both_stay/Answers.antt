use Rattle.std.proofs.Common.{arith}
use Rattle.model_history.specs.Rails.{rails_at}
use Rattle.run_signal.specs.{Lanes.in_lane, Levels.level_rails}
use Rattle.run_changes.proofs.changes_lemmas.AgreeLaws.{stays_once, stays_less}
use Rattle.run_changes.proofs.changes.agreeing.both_stay.Goals as goal

pub returns-then-end-t-eq1-clause-track : goal.returns-then-end-t-eq1-clause-track
returns-then-end-t-eq1-clause-track g c = λ lane inside.
    stays_once (rails_at (in_lane g.V.Signal.signal.rails lane c.args.track.now.keys)) c.args.t
    c.args.end (omega arith)

pub returns-then-end-t-eq1-clause-recorded : goal.returns-then-end-t-eq1-clause-recorded
returns-then-end-t-eq1-clause-recorded g c =
    stays_once (rails_at (in_lane (λ x _. level_rails x) 0 c.args.recorded.now.keys)) c.args.t c.args.end (omega arith)

pub returns-clause-track : goal.returns-clause-track
returns-clause-track g c = λ lane inside.
    stays_less (rails_at (in_lane g.V.Signal.signal.rails lane c.args.track.now.keys)) c.args.t _
    c.args.end
    c.stays_until-stays.result c.min-2.result (omega arith) (omega arith) (omega arith)
    (c.stays_until-stays.ensures.stays lane inside)

pub returns-clause-recorded : goal.returns-clause-recorded
returns-clause-recorded g c =
    stays_less (rails_at (in_lane (λ x _. level_rails x) 0 c.args.recorded.now.keys)) c.args.t _ c.args.end
    c.stays_until-recorded_stays.result c.min-2.result (omega arith) (omega arith) (omega arith)
    (c.stays_until-recorded_stays.ensures.stays 0 (omega arith))
