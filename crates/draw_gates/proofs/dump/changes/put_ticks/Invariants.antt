use Rattle.std.proofs.Common.{◌≡◌, ◌++◌}
use Rattle.model_history.specs.Each.{each_below}
use Rattle.run_step.specs.Played.{is_on}
use Rattle.draw_gates.specs.dump.Dump.{tick_text}
use Rattle.draw_gates.proofs.dump.changes.put_ticks.Given as goal

abbrev pub invariant-loop-t : goal.invariant-loop-t
invariant-loop-t l =
    l.text.items
    ≡ l.initial.text.items
    ++ each_below l.t (tick_text l.extent.tick_us (is_on l.waves) l.extent.gates)
