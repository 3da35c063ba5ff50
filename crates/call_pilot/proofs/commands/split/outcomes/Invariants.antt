use Rattle.std.specs.List.{All}
use Rattle.judge_verdict.specs.verdict.OneEach.{OneEach}
use Rattle.judge_split.specs.Found.{IsFound}
use Rattle.cert_split.specs.text.Piece.{IsPrintable}
use Rattle.call_pilot.proofs.commands.split.outcomes.Given as goal

abbrev pub invariant-loop-k : goal.invariant-loop-k
invariant-loop-k l =
    OneEach (λ k outcome. IsFound l.compiled.line.now l.script k l.depth outcome) l.k l.all.items
    × All (IsPrintable l.compiled.line.now) l.all.items
