use Rattle.std.proofs.Common.{◌≡◌, ◌++◌}
use Rattle.std.specs.Prelude.{slice_get}
use Rattle.csv.specs.Writing.{row_text, default_writer}
use Rattle.model_history.specs.Each.{each_below}
use Rattle.call_shots.specs.Delays.{delays_header, shot_rows}
use Rattle.call_shots.proofs.delays.delays_text.Given as goal

abbrev pub invariant-loop-i : goal.invariant-loop-i
invariant-loop-i l =
    l.text.items
    ≡ row_text default_writer delays_header
    ++ each_below l.i (λ i. shot_rows l.cases.compiled.line.now l.cases.scripts.now i
    (slice_get l.shots i) (slice_get l.timings i))
