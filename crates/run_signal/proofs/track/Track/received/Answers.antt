use Rattle.std.proofs.Common.{ℕ, ◌-◌, length, sym, ◌∙◌, ap}
use Rattle.model_history.specs.Rails.{rails_at}
use Rattle.run_signal.specs.Lanes.{in_lane}
use Rattle.run_signal.proofs.{SteadyLaws.steady_delayed, TrackLaws.rails_read}
use Rattle.run_signal.proofs.track.Track.received.Goals as goal

pub returns-then-is_steady : goal.returns-then-is_steady
returns-then-is_steady g c = λ lane inside.
    let keys = c.args.self.now.keys in
    let u = rails_at (in_lane g.V.Signal.signal.rails lane keys) in
    sym (rails_read g.V.Signal.signal.rails keys (c.len.result - 1) c.at.result lane
    c.at.ensures)
    ∙ ap (λ (n : ℕ). u (n - 1)) c.len.ensures.length
    ∙ steady_delayed c.delays_are_their_facts.ensures u (g.V.Signal.signal.ends c.args.delay.now
    lane)
    (length keys) (c.requires.later lane inside)
    (c.is_steady.ensures.since c.if-is_steady.true lane inside)
