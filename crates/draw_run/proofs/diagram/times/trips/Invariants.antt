use Rattle.std.proofs.Common.{◌≡◌}
use Rattle.model_history.specs.Recorded.{first_ticks}
use Rattle.draw_run.specs.diagram.Times.{trip_times_of}
use Rattle.draw_run.proofs.diagram.times.trips.Given as goal

abbrev pub invariant-loop-k : goal.invariant-loop-k
invariant-loop-k g l =
    l.all.items
    ≡ first_ticks
    (λ k. trip_times_of l.script l.line.horizon ((g.H.Shown.pairs l.shown).trip k)) l.k
