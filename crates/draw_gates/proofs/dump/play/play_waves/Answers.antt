use Rattle.std.proofs.lemmas.Result.{IfOk-weaker}
use Rattle.std.proofs.Common.{◌≡◌, ℕ, List, length, sym, ◌∙◌, ap, arith, subst}
use Rattle.std.specs.Prelude.{IsTrue}
use Rattle.model_line.specs.declared.line.Line.{Line}
use Rattle.model_logic.specs.Choice.{Choice}
use Rattle.model_timing.specs.declared.step.Step.{Step}
use Rattle.model_timing.specs.{Timing.TimingValues, Timing.ascend, Choice.timing_choice}
use Rattle.run_signal.specs.Levels.{level_signal}
use Rattle.run_step.specs.LaneBox.{lane_box}
use Rattle.run_step.specs.{Played.ends_of_tick, Played.played, Runs.AreDelayed, Runs.IsPoint}
use Rattle.draw_gates.proofs.dump_lemmas.LevelLaws.{levels_are}
use Rattle.draw_gates.proofs.dump.play.play_waves.Goals as goal

-- what holds of the lists of a timing holds of the lists that are handed on, which are the same
of_lists : (P : List ℕ → List (Step ℕ) → Type 0) (values : List ℕ) (steps : List (Step ℕ))
    (timing : TimingValues) → values ≡ timing.values → steps ≡ timing.steps
    → P timing.values timing.steps → P values steps
of_lists P values steps timing same_values same_steps h =
    subst (λ (v : List ℕ). P v steps) (sym same_values)
    (subst (λ (s : List (Step ℕ)). P timing.values s) (sym same_steps) h)

pub run-requires-clause-spans : goal.run-requires-clause-spans
run-requires-clause-spans c = ap length c.values-values.ensures ∙ c.requires.inside.count

pub run-requires-clause-ascending : goal.run-requires-clause-ascending
run-requires-clause-ascending c =
    subst (λ (x : List (Step ℕ)). IsTrue (ascend x)) (sym c.steps-steps.ensures.same)
    c.steps-steps.ensures.ascending

pub run-requires-clause-delayed : goal.run-requires-clause-delayed
run-requires-clause-delayed c =
    let line : Line = c.args.compiled.now.line.now in
    let timing : TimingValues = c.args.timing.now.timing in
    of_lists (λ v s. AreDelayed level_signal line v s) c.values-values.result.now
    c.steps-steps.result.now timing c.values-values.ensures c.steps-steps.ensures.same
    (c.a_timing_is_one_choice.ensures.delayed line timing c.requires.inside)

pub returns-clause-played : goal.returns-clause-played
returns-clause-played c =
    let line : Line = c.args.compiled.now.line.now in
    let timing : TimingValues = c.args.timing.now.timing in
    let choice : Choice = timing_choice line timing in
    let point = of_lists
    (λ v s. IsPoint line (lane_box ends_of_tick line v s 0) choice) c.values-values.result.now
    c.steps-steps.result.now timing c.values-values.ensures c.steps-steps.ensures.same
    (c.a_timing_is_one_choice.ensures.point line timing 0 c.requires.inside) in
    IfOk-weaker c.run.result _ _
    (λ waves exact h is_h.
    c.each_choice_has_one_history.ensures.only line c.args.script.now choice (played waves) h
    (c.a_timing_is_one_choice.ensures.choice line timing c.requires.inside)
    (exact 0 choice (omega arith) point).is is_h)
    c.run.ensures.exact

pub returns-clause-gates : goal.returns-clause-gates
returns-clause-gates c =
    let line : Line = c.args.compiled.now.line.now in
    let timing : TimingValues = c.args.timing.now.timing in
    let choice : Choice = timing_choice line timing in
    let box = lane_box ends_of_tick line c.values-values.result.now c.steps-steps.result.now 0 in
    let point : IsPoint line box choice = of_lists
    (λ v s. IsPoint line (lane_box ends_of_tick line v s 0) choice) c.values-values.result.now
    c.steps-steps.result.now timing c.values-values.ensures c.steps-steps.ensures.same
    (c.a_timing_is_one_choice.ensures.point line timing 0 c.requires.inside) in
    IfOk-weaker c.run.result _ _
    (λ waves covers h is_h gate t lt early.
    levels_are line c.args.script.now box choice c.args.compiled.now.net.now waves point
    (covers 0 (omega arith)) h is_h gate t lt early)
    c.run.ensures.covers
