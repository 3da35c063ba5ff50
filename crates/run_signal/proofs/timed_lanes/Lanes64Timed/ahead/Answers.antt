use Rattle.std.proofs.Common.{inl}
use Rattle.std.specs.Prelude.{slice_index}
use Rattle.model_history.specs.Rails.{single}
use Rattle.run_signal.specs.Bits.{bit_rails}
use Rattle.run_signal.specs.Vectors.{numbers_in}
use Rattle.run_signal.proofs.RailsLaws.{rails_steady}
use Rattle.run_signal.proofs.timed_lanes.Lanes64Timed.ahead.Goals as goal

pub returns : goal.returns
returns c = λ pickup dropout inputs stands.
    rails_steady c.history_laws.ensures 64 (numbers_in c.args.cells.now) (numbers_in c.args.cells.now)
    (λ lane. single (slice_index pickup lane)) (λ lane. single (slice_index dropout lane)) inputs
    (bit_rails c.args.input) c.ahead.result
    stands (λ lane inside. (
      c.ahead.ensures.bounded lane inside,
      c.ahead.ensures.bounded lane inside,
    ))
    c.ahead.ensures.limited
    (λ lane inside. (c.ahead.ensures.under lane inside, c.ahead.ensures.under lane inside))
    (λ less. let at_lane = c.ahead.ensures.met less in (at_lane.0, at_lane.1, inl at_lane.2))
