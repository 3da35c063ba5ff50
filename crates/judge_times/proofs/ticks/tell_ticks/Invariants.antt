use Rattle.std.proofs.Common.{◌≡◌, ◌++◌, List}
use Rattle.judge_borders.specs.{Halves.AreWithin, Parts.IsPart}
use Rattle.judge_times.specs.Answers.{AreFailing}
use Rattle.judge_times.specs.declared.part.Part.{Part}
use Rattle.judge_times.specs.Stripped.{AreStrips}
use Rattle.judge_times.proofs.ticks.tell_ticks.Given as goal

abbrev pub invariant-loop-t : goal.invariant-loop-t
invariant-loop-t l =
    (_ : IsPart l.rest.items) × (_ : AreWithin l.part l.rest.items)
    × (_ : AreFailing l.of l.rest.items l.before.items)
    × (more : List Part) × (l.found.items ≡ l.fn.found.items ++ more) × AreStrips l.of l.part l.rest.items more
