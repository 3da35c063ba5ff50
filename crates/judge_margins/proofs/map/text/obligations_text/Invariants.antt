use Rattle.std.proofs.Common.{◌≡◌, ◌++◌, drop}
use Rattle.judge_margins.specs.map.MapText.{obligations_from, obligations_said}
use Rattle.judge_margins.proofs.map.text.obligations_text.Given as goal

abbrev pub invariant-loop-n : goal.invariant-loop-n
invariant-loop-n l =
    l.text.items ++ obligations_from l.line l.scripts l.n (drop l.n l.places)
    ≡ obligations_said l.line l.scripts l.places
