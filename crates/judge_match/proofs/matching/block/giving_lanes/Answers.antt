use Rattle.std.proofs.Common.{sym, subst}
use Rattle.run_step.specs.BlockLaws.{block_point, block_delayed}
use Rattle.model_timing.specs.{Choice.timing_choice, Candidates.candidate}
use Rattle.model_line.specs.Parameters.{param_count}
use Rattle.model_timing.specs.Blocks.{candidate_in, AreBlockSpans}
use Rattle.judge_match.proofs.matching_lemmas.BlockLaws.{giving_told}
use Rattle.judge_match.proofs.matching.block.giving_lanes.Goals as goal

pub agreeing_lanes-requires-clause-delayed : goal.agreeing_lanes-requires-clause-delayed
agreeing_lanes-requires-clause-delayed c =
    let line = c.args.compiled.now.line.now in
    block_delayed c.parameters_are_numbered.ensures line c.args.first c.deref.result.now
    (subst (AreBlockSpans line c.args.first (param_count line)) (sym c.deref.ensures.value)
    c.in_ok-spans.ensures)
    (λ i there.
    c.each_line_has_a_choice_inside.ensures.choices line (timing_choice line (candidate line i))
    (c.timings_inside_are_choices_inside.ensures line (candidate line i)
    (c.candidates_are_inside.ensures line i there)))

pub returns : goal.returns
returns c = λ seen same lane inside.
    let line = c.args.compiled.now.line.now in
    let spans : AreBlockSpans line c.args.first (param_count line) c.deref.result.now =
    subst (AreBlockSpans line c.args.first (param_count line)) (sym c.deref.ensures.value)
    c.in_ok-spans.ensures in
    giving_told line c.args.script.now
    (candidate line (candidate_in line c.args.first lane)) seen _ _ same
    (c.in_ok-lanes.ensures.agreeing lane
    (timing_choice line (candidate line (candidate_in line c.args.first lane))) inside
    (block_point c.parameters_are_numbered.ensures line c.args.first c.deref.result.now spans lane
    inside))
