use Rattle.std.proofs.Common.{◌≡◌, ◌++◌}
use Rattle.model_history.specs.Each.{each_below}
use Rattle.run_step.specs.Played.{is_on}
use Rattle.draw_gates.specs.dump.Dump.{next_text}
use Rattle.draw_gates.proofs.dump.changes.put_next.Given as goal

abbrev pub invariant-loop-i : goal.invariant-loop-i
invariant-loop-i l =
    l.text.items ≡ l.initial.text.items ++ each_below l.i (next_text (is_on l.waves) l.t)
