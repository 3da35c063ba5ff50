use Rattle.std.proofs.Common.{sym, subst}
use Rattle.run_step.specs.CellStands.{CellStands}
use Rattle.run_changes.specs.{changes.Lags.Lags, changes.Lags.TimerLags}
use Rattle.run_changes.proofs.changes.since.catch_up.Goals as goal

pub returns-in-Timer-clause-stands : goal.returns-in-Timer-clause-stands
returns-in-Timer-clause-stands g c = λ lane w u inside lags.
    let t = c.args.t in
    let a = c.in-Timer.field-0.0 in
    let p = w.time c.in-Timer.field-1 in
    let d = w.time c.in-Timer.field-2 in
    let h : TimerLags g.V.Signal.signal g.V.Timed.stands_for lane p d (u a) t
    c.args.cell.now c.args.since =
    subst (λ k. Lags g.V.Signal.signal g.V.Timed.stands_for lane w u t k
    c.args.cell.now c.args.since) c.in-Timer.is lags in
    subst (λ k. CellStands g.V.Signal.signal g.V.Timed.stands_for lane w u t k
    c.feed.new.cell) (sym c.in-Timer.is)
    (c.feed.ensures.stands lane p d (u a) inside h.taken h.stands h.held)
