use Rattle.std.proofs.Common.{◌≡◌, ◌++◌, drop}
use Rattle.judge_margins.specs.margins.MarginsText.{end_rows, margins_rows}
use Rattle.judge_margins.proofs.margins.text.margins_text.Given as goal

abbrev pub invariant-loop-place : goal.invariant-loop-place
invariant-loop-place l =
    l.text.items ++ end_rows l.line l.scripts l.place (drop l.place l.ends)
    ≡ margins_rows l.line l.scripts l.ends
