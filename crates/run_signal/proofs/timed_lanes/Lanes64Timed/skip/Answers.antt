use Rattle.std.proofs.Common.{refl}
use Rattle.std.specs.Prelude.{slice_index}
use Rattle.model_history.specs.Rails.{single}
use Rattle.run_signal.specs.Bits.{bit_on, bit_rails}
use Rattle.run_signal.specs.Vectors.{numbers_in}
use Rattle.run_signal.proofs.RailsLaws.{rails_skipped}
use Rattle.run_signal.proofs.timed_lanes.Lanes64Timed.skip.Goals as goal

pub returns : goal.returns
returns c = λ pickup dropout lane inputs inside.
    let before = numbers_in c.args.cells.now lane in
    let after = numbers_in c.skip.new.self lane in
    let on = bit_on c.args.input lane in
    rails_skipped before before after after
    (single (slice_index pickup lane)) (single (slice_index dropout lane)) inputs
    (bit_rails c.args.input lane) on on c.args.count (λ yes. yes) c.requires.some refl refl
    (c.skip.ensures lane inside) (c.skip.ensures lane inside)
