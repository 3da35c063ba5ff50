use Rattle.std.proofs.Common.{◌≡◌, ◌++◌, take}
use Rattle.draw_run.specs.{layout.Rows.other_marks_said, layout.Words.said}
use Rattle.draw_run.proofs.layout.row.other_marks_said.Given as goal

abbrev pub invariant-loop-mark : goal.invariant-loop-mark
invariant-loop-mark l =
    said l.all ≡ said l.fn.words ++ other_marks_said (take l.mark-index l.marks)
