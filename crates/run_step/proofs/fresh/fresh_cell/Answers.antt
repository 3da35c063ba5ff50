use Rattle.std.proofs.Common.{[], sym, ◌∙◌, subst}
use Rattle.model_history.specs.Rails.{Ends}
use Rattle.run_step.specs.CellStands.{CellStands, TimerStands}
use Rattle.run_step.proofs.fresh.fresh_cell.Goals as goal

pub returns-in-Timer-clause-stands : goal.returns-in-Timer-clause-stands
returns-in-Timer-clause-stands g c = λ lane w u inside times.
    let cell = c.fresh_timer.result in
    let ends = g.V.Signal.signal.ends in
    let stands_for = g.V.Timed.stands_for in
    subst (λ k. CellStands g.V.Signal.signal stands_for lane w u 0 k cell)
    (sym c.in-Timer.is)
    (subst (λ (e : Ends). TimerStands stands_for ends lane e (w.time c.in-Timer.dropout) [] cell)
    (c.time_span.ensures lane inside ∙ sym (times c.in-Timer.pickup))
    (subst (λ (e : Ends). TimerStands stands_for ends lane (ends c.time_span.result lane) e [] cell)
    (c.time_span-in-Timer.ensures lane inside ∙ sym (times c.in-Timer.dropout))
    (c.fresh_timer.ensures.stands lane inside)))
