use Rattle.std.proofs.Common.{◌++◌, ℕ, List, length, sym, ◌∙◌, ap, arith, subst}
use Rattle.std.specs.Prelude.{IsTrue}
use Rattle.model_logic.specs.Histories.{History, IsSameHistory}
use Rattle.model_logic.specs.Choice.{Choice}
use Rattle.model_timing.specs.declared.step.Step.{Step}
use Rattle.model_timing.specs.{Timing.TimingValues, Timing.ascend, Choice.timing_choice}
use Rattle.run_signal.specs.Levels.{level_signal}
use Rattle.run_step.specs.Played.{ends_of_tick}
use Rattle.run_step.specs.{LaneBox.lane_box, Ticks.AreSent}
use Rattle.run_changes.specs.changes.PlayedTracks.{played}
use Rattle.run_step.specs.{Runs.AreDelayed, Runs.IsPoint}
use Rattle.file_records.specs.recorded.Data.{data_text}
use Rattle.file_records.proofs.recorded_lemmas.SameData.{data_same}
use Rattle.file_records.proofs.recorded.data.data_text.Goals as goal

pub run_tracks-requires-clause-spans : goal.run_tracks-requires-clause-spans
run_tracks-requires-clause-spans c = ap length c.values-values.ensures ∙ c.requires.inside.count

pub run_tracks-requires-clause-ascending : goal.run_tracks-requires-clause-ascending
run_tracks-requires-clause-ascending c =
    subst (λ (x : List (Step ℕ)). IsTrue (ascend x)) (sym c.steps-steps.ensures.same)
    c.steps-steps.ensures.ascending

-- the lists that are handed on are the timing's
pub run_tracks-requires-clause-delayed : goal.run_tracks-requires-clause-delayed
run_tracks-requires-clause-delayed c =
    let line = c.args.compiled.now.line.now in
    let timing : TimingValues = c.args.timing.now.timing in
    subst (λ (x : List ℕ). AreDelayed level_signal line x c.steps-steps.result.now)
    (sym c.values-values.ensures)
    (subst (λ (x : List (Step ℕ)). AreDelayed level_signal line timing.values x)
    (sym c.steps-steps.ensures.same)
    (c.a_timing_is_one_choice.ensures.delayed line timing c.requires.inside))

pub put_samples-requires-clause-keys : goal.put_samples-requires-clause-keys
put_samples-requires-clause-keys c =
    subst
    (λ (n : ℕ). AreSent n c.args.compiled.now.line.now.horizon c.args.compiled.now.line.now.horizon
    c.in_ok-tracks.tracks.keys.items)
    c.args.compiled.now.of_line.terminals c.in_ok-tracks.ensures.keys

pub put_samples-requires-clause-trips : goal.put_samples-requires-clause-trips
put_samples-requires-clause-trips c =
    subst
    (λ (n : ℕ). AreSent n c.args.compiled.now.line.now.horizon c.args.compiled.now.line.now.horizon
    c.in_ok-tracks.tracks.trips.items)
    (c.args.compiled.now.of_line.laws.same ∙ c.args.compiled.now.of_line.terminals)
    c.in_ok-tracks.ensures.trips

pub returns : goal.returns
returns c = λ h is_h.
    let line = c.args.compiled.now.line.now in
    let script = c.args.script.now in
    let timing : TimingValues = c.args.timing.now.timing in
    let choice : Choice = timing_choice line timing in
    let values : List ℕ = c.values-values.result.now in
    let steps : List (Step ℕ) = c.steps-steps.result.now in
    let own : History = played c.in_ok-tracks.tracks.keys.items c.in_ok-tracks.tracks.trips.items in
    let point : IsPoint line (lane_box ends_of_tick line values steps 0) choice =
    subst (λ (x : List ℕ). IsPoint line (lane_box ends_of_tick line x steps 0) choice)
    (sym c.values-values.ensures)
    (subst (λ (x : List (Step ℕ)). IsPoint line (lane_box ends_of_tick line timing.values x 0) choice)
    (sym c.steps-steps.ensures.same)
    (c.a_timing_is_one_choice.ensures.point line timing 0 c.requires.inside)) in
    let exact = c.in_ok-tracks.ensures.exact 0 choice (omega arith) point in
    let (only, is_only, same) =
    c.a_timing_is_one_choice.ensures.history line script timing c.requires.inside in
    let to_own : IsSameHistory line only own = same own exact.is in
    let to_h : IsSameHistory line only h = same h is_h in
    c.in_ok-put_samples.ensures
    ∙ ap (λ (l : List ℕ). l ++ data_text line script own) c.new-text.ensures.items
    ∙ sym (data_same line script only own to_own)
    ∙ data_same line script only h to_h
