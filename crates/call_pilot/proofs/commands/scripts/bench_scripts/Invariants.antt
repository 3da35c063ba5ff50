use Rattle.std.specs.List.{All}
use Rattle.model_line.specs.{declared.line.Line.Line, Fits.Fits}
use Rattle.call_pilot.specs.{commands.BenchLine.IsBenchLine, commands.BenchScripts.AreBenchScripts}
use Rattle.call_pilot.proofs.commands.scripts.bench_scripts.Given as goal

abbrev pub invariant-loop-before : goal.invariant-loop-before
invariant-loop-before l = record {
  are : AreBenchScripts l.before l.scripts.items;
  fit : (line : Line) → IsBenchLine line → All (Fits line) l.scripts.items;
}
