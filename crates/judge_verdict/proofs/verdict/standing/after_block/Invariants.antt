use Rattle.std.proofs.Common.{◌≡◌, ◌+◌, length}
use Rattle.model_logic.specs.Histories.{PairHistory}
use Rattle.judge_verdict.specs.{verdict.OneEach.OneEach, verdict.Standings.IsStanding, verdict.Standings.AllStand}
use Rattle.judge_verdict.proofs.verdict.standing.after_block.Given as goal

abbrev pub invariant-loop-k : goal.invariant-loop-k
invariant-loop-k l = record {
  count : length l.after.items ≡ l.k;
  stand : (w : PairHistory) → AllStand l.line l.script w l.first l.standings
      → OneEach (λ k s. IsStanding l.line l.script k w (l.first + 64) s) l.k l.after.items;
}
