use Rattle.std.proofs.Common.{ℕ, List, sym, subst, arith}
use Rattle.std.proofs.lemmas.Result.{IfOk-weaker}
use Rattle.model_logic.specs.{Choice.Choice}
use Rattle.model_timing.specs.{declared.step.Step.Step, Timing.TimingValues, Choice.timing_choice}
use Rattle.run_step.specs.{LaneBox.lane_box, Played.ends_of_tick, Runs.IsPoint}
use Rattle.judge_match.proofs.explain.play.play.Goals as goal

pub returns-clause-history : goal.returns-clause-history
returns-clause-history c =
    let line = c.args.q.now.compiled.line.now in
    let script = c.args.q.now.script.now in
    let timing : TimingValues = c.args.timing.now in
    let choice : Choice = timing_choice line timing in
    let law = c.a_timing_is_one_choice.ensures in
    let point =
    subst (λ (values : List ℕ).
    IsPoint line (lane_box ends_of_tick line values c.steps-steps.result.now 0) choice)
    (sym c.values-values.ensures)
    (subst (λ (steps : List (Step ℕ)).
    IsPoint line (lane_box ends_of_tick line timing.values steps 0) choice)
    (sym c.steps-steps.ensures.same) (law.point line timing 0 c.requires.inside)) in
    IfOk-weaker c.run_tracks.result _ _
    (λ tracks exact.
    let at = exact 0 choice (omega arith) point in
    record {
      is = at.is;
      only = λ other is. c.line_laws.ensures.histories.only line script choice other _
          (law.choice line timing c.requires.inside) is at.is;
    })
    c.run_tracks.ensures.exact
