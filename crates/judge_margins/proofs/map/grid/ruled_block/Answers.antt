use Rattle.std.proofs.Common.{◌≡◌, ◌*◌, ℕ, [], List, length, subst, sym, arith}
use Rattle.model_line.specs.Parameters.{terminal_count}
use Rattle.run_step.specs.{LaneBox.lane_box, Runs.AreDelayed}
use Rattle.judge_verdict.specs.boxes.Spans.{SpanLists, span_ends}
use Rattle.judge_verdict.specs.boxes.Terns.{terns_signal}
use Rattle.judge_margins.specs.map.Blocks.{AreRuled, lane_cell}
use Rattle.judge_margins.proofs.{map_lemmas.CellLaws.box_of_lane, map_lemmas.CellLaws.cells_delayed, map_lemmas.RuledLaws.ruled_in}
use Rattle.judge_margins.proofs.map.grid.ruled_block.Goals as goal

pub rule_script-requires-clause-delayed : goal.rule_script-requires-clause-delayed
rule_script-requires-clause-delayed c =
    let line = c.args.compiled.now.line.now in
    let spans = c.in_ok-spans.spans.items in
    subst (λ (l : List SpanLists). AreDelayed terns_signal line l []) (sym c.deref.ensures.value)
    (cells_delayed c.laws_below.ensures line c.args.axes.now c.args.first spans c.in_ok-spans.ensures
    c.requires.can c.requires.first)

pub returns : goal.returns
returns c =
    let line = c.args.compiled.now.line.now in
    let scripts = c.args.scripts.now in
    let axes = c.args.axes.now in
    let spans = c.in_ok-spans.spans.items in
    let all : c.loop-s.s ≡ length scripts = omega arith in
    ruled_in c.laws_below.ensures line scripts (lane_box span_ends line spans [])
    (lane_cell line axes c.args.first) (length scripts * terminal_count line) c.loop-s.ruled.items
    (box_of_lane c.laws_below.ensures line axes c.args.first spans c.in_ok-spans.ensures)
    (subst (λ (n : ℕ). AreRuled line scripts (lane_box span_ends line spans [])
    (n * terminal_count line) c.loop-s.ruled.items) all c.loop-s.invariant)
