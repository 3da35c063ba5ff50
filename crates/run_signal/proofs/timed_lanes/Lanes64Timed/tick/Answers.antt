use Rattle.std.proofs.Common.{◌≤◌, ◌∙◌, ap, arith, refl}
use Rattle.std.specs.Prelude.{slice_index}
use Rattle.model_history.specs.Rails.{both, single}
use Rattle.run_signal.specs.Bits.{bit_on, bit_rails}
use Rattle.run_signal.specs.Vectors.{numbers_in}
use Rattle.run_signal.proofs.RailsLaws.{rails_skipped, rails_answer}
use Rattle.run_signal.proofs.timed_lanes.Lanes64Timed.tick.Goals as goal

pub returns-clause-stands : goal.returns-clause-stands
returns-clause-stands c = λ pickup dropout lane inputs inside.
    let before = numbers_in c.args.cells.now lane in
    let after = numbers_in c.tick.new.self lane in
    let on = bit_on c.args.input lane in
    let some : 1 ≤ 1 = omega arith in
    rails_skipped before before after after
    (single (slice_index pickup lane)) (single (slice_index dropout lane)) inputs
    (bit_rails c.args.input lane) on on 1 (λ yes. yes) some refl refl
    (c.tick.ensures.numbers lane inside) (c.tick.ensures.numbers lane inside)

pub returns-clause-timed : goal.returns-clause-timed
returns-clause-timed c = λ pickup dropout lane inputs inside h.
    let after = numbers_in c.tick.new.self lane in
    ap both (c.tick.ensures.answer lane inside)
    ∙ rails_answer c.history_laws.ensures after after (single (slice_index pickup lane))
    (single (slice_index dropout lane))
    inputs (bit_rails c.args.input lane)
    (returns-clause-stands c pickup dropout lane inputs inside h)
