use Rattle.std.proofs.Common.{◌≡◌, ◌++◌, take}
use Rattle.draw_run.specs.{layout.Rows.others_said, layout.Words.said}
use Rattle.draw_run.proofs.layout.row.others_said.Given as goal

abbrev pub invariant-loop-stretch : goal.invariant-loop-stretch
invariant-loop-stretch l =
    said l.all ≡ said l.fn.words ++ others_said (take l.stretch-index l.stretches)
