use Rattle.std.proofs.Common.{◌≡◌, ℕ, ◌<◌, ◌≤◌, arith, subst}
use Rattle.model_history.specs.Rails.{Ends}
use Rattle.run_signal.specs.Ahead.{next_rails}
use Rattle.run_step.specs.CellStands.{CellsStand, TimerStands}
use Rattle.run_step.specs.LoopLaws.{at_most_max}
use Rattle.run_step.proofs.cell.timer_stays.Goals as goal

pub returns-clause-steady : goal.returns-clause-steady
returns-clause-steady g c = λ p d inputs stands lane j inside lt.
    let x = c.in-Timer.field-1 in
    let y = c.in-Timer.field-2 in
    let of : (l : ℕ) → l < g.V.Signal.signal.lanes
    → CellsStand g.V.Timed.stands_for g.V.Signal.signal.ends l (p l) (d l) (inputs l)
    c.in-Timer.cells x y
    = λ l il. subst
    (λ k. TimerStands g.V.Timed.stands_for g.V.Signal.signal.ends l (p l) (d l) (inputs l) k)
    c.in-Timer.is (stands l il) in
    let steady = c.ahead.ensures x y inputs (λ l il. (of l il).stands) in
    let most : c.max.result ≤ c.ahead.result =
    at_most_max c.max.result c.ahead.result c.max.ensures steady.some in
    let here = of lane inside in
    let input = g.V.Signal.signal.rails c.args.input lane in
    subst (λ (e : Ends). next_rails e (d lane) (inputs lane) input j
    ≡ next_rails e (d lane) (inputs lane) input 0) here.pickup_is
    (subst (λ (e : Ends). next_rails (g.V.Signal.signal.ends x lane) e (inputs lane) input j
    ≡ next_rails (g.V.Signal.signal.ends x lane) e (inputs lane) input 0) here.dropout_is
    (steady.same lane j inside (omega (arith, lt, most))))
