use Rattle.std.proofs.Common.{◌≡◌, ◌++◌}
use Rattle.model_history.specs.Each.{each_below}
use Rattle.judge_verdict.specs.verdict.PairWavesOf.{pair_history}
use Rattle.judge_report.specs.ReportText.{row_text}
use Rattle.judge_report.proofs.report.push_rows.Given as goal

abbrev pub invariant-loop-k : goal.invariant-loop-k
invariant-loop-k l =
    l.text.items
    ≡ l.initial.text.items
    ++ each_below l.k (λ k. row_text l.line l.script k ((pair_history l.waves).trip k))
