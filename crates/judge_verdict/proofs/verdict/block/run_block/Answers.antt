use Rattle.std.proofs.Common.{◌≡◌, ℕ, ◌<◌, Option, sym, ◌∙◌, ap, subst}
use Rattle.model_history.specs.Rails.{must_of}
use Rattle.run_signal.specs.SentKeys.{SentKeys}
use Rattle.run_signal.specs.Bits.{bit_rails}
use Rattle.model_timing.specs.{Choice.timing_choice, Candidates.candidate}
use Rattle.run_changes.specs.changes.Tracks.{pair_of}
use Rattle.run_changes.specs.changes.Until.{ReachTick}
use Rattle.model_line.specs.Parameters.{param_count, terminal_count}
use Rattle.model_timing.specs.Blocks.{candidate_in, AreBlockSpans}
use Rattle.judge_verdict.specs.verdict.Candidates.{looked_at}
use Rattle.run_step.specs.BlockLaws.{block_point, block_delayed}
use Rattle.judge_verdict.proofs.verdict.block.run_block.Goals as goal

pub run_tracks_until-requires-clause-delayed : goal.run_tracks_until-requires-clause-delayed
run_tracks_until-requires-clause-delayed c =
    let line = c.args.compiled.now.line.now in
    block_delayed c.parameters_are_numbered.ensures line c.args.first c.deref.result.now
    (subst (AreBlockSpans line c.args.first (param_count line)) (sym c.deref.ensures.value)
    c.in_ok-spans.ensures)
    (λ i there.
    c.each_line_has_a_choice_inside.ensures.choices line (timing_choice line (candidate line i))
    (c.timings_inside_are_choices_inside.ensures line (candidate line i)
    (c.candidates_are_inside.ensures line i there)))

pub returns : goal.returns
returns c =
    let line = c.args.compiled.now.line.now in
    let script = c.args.script.now in
    let trips = c.in_ok-tracks.tracks.trips.items in
    let until = c.looked_ticks-until.result in
    let is : until ≡ looked_at line script = c.looked_ticks-until.ensures.is in
    let spans : AreBlockSpans line c.args.first (param_count line) c.deref.result.now =
    subst (AreBlockSpans line c.args.first (param_count line)) (sym c.deref.ensures.value)
    c.in_ok-spans.ensures in
    record {
      sent = subst (λ (m : ℕ). ReachTick (terminal_count line) m trips) is
          (subst (λ (n : ℕ). ReachTick n until trips)
          (c.args.compiled.now.of_line.laws.same ∙ c.args.compiled.now.of_line.terminals)
          c.in_ok-tracks.ensures.trips);
      exact = λ lane h inside is_h k t trip at kn lt.
          let below = c.in_ok-tracks.ensures.exact lane
          (timing_choice line (candidate line (candidate_in line c.args.first lane))) inside
          (block_point c.parameters_are_numbered.ensures line c.args.first c.deref.result.now spans
          lane inside) h is_h in
          sym (ap (λ (o : Option (SentKeys ℕ)). (pair_of (λ x l. bit_rails x l) lane t o).must) at)
          ∙ ap must_of (below.trips k t kn (subst (λ (m : ℕ). t < m) (sym is) lt));
    }
