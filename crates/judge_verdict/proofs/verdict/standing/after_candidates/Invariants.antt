use Rattle.std.proofs.Common.{◌≡◌, ◌-◌, length}
use Rattle.model_line.specs.Parameters.{terminal_count}
use Rattle.model_logic.specs.Histories.{PairHistory}
use Rattle.judge_verdict.specs.verdict.Standings.{AllStand}
use Rattle.judge_verdict.proofs.verdict.standing.after_candidates.Given as goal

abbrev pub invariant-next_block : goal.invariant-next_block
invariant-next_block l = record {
  terminals : length l.standings.items ≡ terminal_count l.compiled.line.now;
  stand : (w : PairHistory) → AllStand l.compiled.line.now l.script w 0 l.fn.by_rules.items
      → AllStand l.compiled.line.now l.script w l.first l.standings.items;
}

abbrev pub decreases-next_block : goal.decreases-next_block
decreases-next_block l = l.count - l.first
