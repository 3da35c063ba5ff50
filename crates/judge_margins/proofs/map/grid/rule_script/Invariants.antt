use Rattle.std.proofs.Common.{◌+◌, ◌*◌, []}
use Rattle.model_line.specs.Parameters.{terminal_count}
use Rattle.run_step.specs.LaneBox.{lane_box}
use Rattle.judge_verdict.specs.boxes.Spans.{span_ends}
use Rattle.judge_margins.specs.map.Blocks.{AreRuled}
use Rattle.judge_margins.proofs.map.grid.rule_script.Given as goal

abbrev pub invariant-loop-k : goal.invariant-loop-k
invariant-loop-k l =
    AreRuled l.compiled.line.now l.scripts (lane_box span_ends l.compiled.line.now l.spans [])
    (l.s * terminal_count l.compiled.line.now + l.k) l.ruled.items
