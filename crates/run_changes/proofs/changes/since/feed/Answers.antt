use Rattle.std.proofs.Common.{◌≡◌, ◌+◌, ◌-◌, List, ◌∙◌, ap, arith, subst}
use Rattle.model_history.specs.{Rails.Rails, Recorded.first_ticks}
use Rattle.run_step.specs.CellStands.{TimerStands}
use Rattle.run_changes.proofs.changes.since.feed.Goals as goal

pub returns-then-since-t-clause-stands : goal.returns-then-since-t-clause-stands
returns-then-since-t-clause-stands g c = λ lane p d input inside taken stands held.
    let fed = c.args.since.fed in
    let t = c.args.t in
    let x = g.V.Signal.signal.rails c.args.since.input lane in
    let all : fed + (t - fed) ≡ t = omega (arith, taken) in
    subst (λ (l : List Rails). TimerStands g.V.Timed.stands_for g.V.Signal.signal.ends lane p d l
    c.hold_timer.new.cell)
    (c.elements_stay_in_a_stretch.ensures.recorded input x fed (t - fed)
    (λ k low high. held k (omega (arith, low)) (omega (arith, low, high, taken)))
    ∙ ap (first_ticks input) all)
    (c.hold_timer.ensures.stands lane p d (first_ticks input fed) inside stands)
