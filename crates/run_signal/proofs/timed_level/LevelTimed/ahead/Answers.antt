use Rattle.std.proofs.Common.{◌≡◌, ◌<◌, ◌∙◌, ap, arith, inl}
use Rattle.model_history.specs.Rails.{single}
use Rattle.run_signal.specs.Levels.{level_rails}
use Rattle.run_signal.specs.LevelLaws.{one_rail}
use Rattle.run_signal.specs.Counts.{steady_of}
use Rattle.run_signal.proofs.RailsLaws.{rails_steady}
use Rattle.run_signal.proofs.timed_level.LevelTimed.ahead.Goals as goal

pub returns : goal.returns
returns c = λ pickup dropout inputs stands.
    let cell = c.args.cells.now in
    let x = level_rails c.args.input in
    let must : c.ahead.result ≡ steady_of cell.pickup cell.run cell.left x.must =
    c.ahead.ensures.steady ∙ ap (steady_of cell.pickup cell.run cell.left) c.must.ensures in
    let may : c.ahead.result ≡ steady_of cell.pickup cell.run cell.left x.may =
    must ∙ ap (steady_of cell.pickup cell.run cell.left) (one_rail c.args.input) in
    let bounded = c.ahead.ensures.bounded in
    let zero_lane : 0 < 1 = omega arith in
    rails_steady c.history_laws.ensures 1 (λ _. cell) (λ _. cell) (λ _. single pickup) (λ _. single dropout) inputs
    (λ _. x) c.ahead.result
    stands (λ lane inside. (bounded, bounded)) c.ahead.ensures.limited
    (λ lane inside. (omega arith, omega arith)) (λ less. (0, zero_lane, inl must))
