use Rattle.std.proofs.Common.{◌≡◌, Some, List, ◌∙◌, sym, subst}
use Rattle.std.proofs.lemmas.Option.{slice_get_read}
use Rattle.std.specs.Prelude.{slice_get}
use Rattle.run_signal.specs.Bits.{bit_on}
use Rattle.model_line.specs.Parameters.{terminal_count}
use Rattle.judge_verdict.specs.{boxes.Spans.SpanLists, boxes.Held.ArePartSpans}
use Rattle.judge_verdict.proofs.boxes_lemmas.HeldLaws.{parts_delayed, tells_held}
use Rattle.judge_verdict.proofs.boxes.held.held_block.Goals as goal

pub run_tracks-requires-clause-delayed : goal.run_tracks-requires-clause-delayed
run_tracks-requires-clause-delayed c =
    let line = c.args.compiled.now.line.now in
    parts_delayed c.line_laws.ensures c.counts_do_not_rest_on_the_intervals.ensures line
    c.args.parts.now c.requires.parts c.args.first c.deref.result.now
    (subst (λ (s : List SpanLists). ArePartSpans line c.args.parts.now c.args.first s)
    (sym c.deref.ensures.value) c.in_ok-spans.ensures)
    c.requires.first

pub returns : goal.returns
returns c =
    let line = c.args.compiled.now.line.now in
    let script = c.args.script.now in
    let trips = c.in_ok-tracks.tracks.trips.items in
    let spans : ArePartSpans line c.args.parts.now c.args.first c.deref.result.now =
    subst (λ (s : List SpanLists). ArePartSpans line c.args.parts.now c.args.first s)
    (sym c.deref.ensures.value) c.in_ok-spans.ensures in
    let at : slice_get trips c.args.terminal ≡ Some c.index.result.now =
    slice_get_read trips (terminal_count line) c.args.terminal c.index.result.now
    (sym (c.in_ok-tracks.ensures.trips.count ∙ c.args.compiled.now.of_line.laws.same
    ∙ c.args.compiled.now.of_line.terminals))
    c.requires.terminal c.index.ensures in
    record {
      each = λ lane part inside here.
          tells_held c.line_laws.ensures c.counts_do_not_rest_on_the_intervals.ensures line
          c.args.parts.now c.requires.parts c.args.first c.deref.result.now spans
          (record {
            one = c.the_rule_over_a_box.ensures.one;
            same = c.the_rule_over_a_box.ensures.same;
            lines = c.the_rule_over_a_box.ensures.lines;
          })
          script c.args.terminal c.requires.deadline c.requires.terminal
          c.in_ok-tracks.tracks.keys.items trips c.index.result.now at lane part
          (bit_on c.held_lanes.result lane) inside here
          (c.in_ok-tracks.ensures.history lane inside)
          (c.held_lanes.ensures lane inside);
    }
