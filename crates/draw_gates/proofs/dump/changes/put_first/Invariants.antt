use Rattle.std.proofs.Common.{◌≡◌, ◌++◌}
use Rattle.model_history.specs.Each.{each_below}
use Rattle.run_step.specs.Played.{is_on}
use Rattle.draw_gates.specs.dump.Dump.{first_text}
use Rattle.draw_gates.proofs.dump.changes.put_first.Given as goal

abbrev pub invariant-loop-i : goal.invariant-loop-i
invariant-loop-i l =
    l.text.items ≡ l.initial.text.items ++ each_below l.i (first_text (is_on l.waves))
