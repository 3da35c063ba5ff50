use Rattle.std.proofs.Common.{◌≡◌, ◌≤◌, ◌+◌, ◌||◌, ℕ, Bool, sym, ◌∙◌, ap, arith}
use Rattle.model_history.specs.Rails.{Rails, must_of, may_of}
use Rattle.model_history.specs.Elements.{some_below}
use Rattle.run_changes.specs.changes.LaneLaws.{some_through}
use Rattle.run_step.specs.WavesOf.{pair_in}
use Rattle.run_ticks.specs.cases.UnderWaves.{wave_pair}
use Rattle.judge_verdict.specs.boxes.Terns.{terns_rails}
use Rattle.judge_cases.proofs.held.some_of.Goals as goal
use Rattle.judge_cases.proofs.held.some_of.Goals.{After-at}

-- on a rail of a lane: whether the gate is on below the next tick
through : (rail : Rails → Bool) (c : After-at) (lane : ℕ) → (before : Bool)
    → before ≡ some_below (λ r. rail (wave_pair terns_rails lane c.args.analysis.now.waves
    c.args.gate.0 r)) c.loop-t.t
    → (rail (terns_rails c.at.result lane) || before)
    ≡ some_below (λ r. rail (wave_pair terns_rails lane c.args.analysis.now.waves c.args.gate.0 r))
    (c.loop-t.t + 1)
through rail c lane before so_far =
    let waves = c.args.analysis.now.waves in
    let t = c.loop-t.t in
    let u : ℕ → Bool = λ r. rail (wave_pair terns_rails lane waves c.args.gate.0 r) in
    some_through u t (t + 1) (rail (terns_rails c.at.result lane)) before (omega arith)
    (λ r low high. let now : r ≡ t = omega arith in ap u now)
    (ap rail (sym (ap (pair_in terns_rails lane) c.at.ensures))) so_far

pub loop-t-preserved : goal.loop-t-preserved
loop-t-preserved c =
    let here = (goal.at.loop-t-preserved c).After-at in
    record {
      must = λ lane inside.
          ap must_of (c.or-lanes.ensures lane inside)
          ∙ through must_of here lane _ (c.loop-t.invariant.must lane inside);
      may = λ lane inside.
          ap may_of (c.or-lanes.ensures lane inside)
          ∙ through may_of here lane _ (c.loop-t.invariant.may lane inside);
    }

pub returns-clause-must : goal.returns-clause-must
returns-clause-must c = λ lane inside.
    let over : c.args.ticks ≤ c.loop-t.t = c.loop-t-test.false in
    let under : c.loop-t.t ≤ c.args.ticks = c.loop-t.auto.t-end in
    let last : c.loop-t.t ≡ c.args.ticks = omega arith in
    c.loop-t.invariant.must lane inside
    ∙ ap (some_below (λ t. (wave_pair terns_rails lane c.args.analysis.now.waves c.args.gate.0
    t).must)) last

pub returns-clause-may : goal.returns-clause-may
returns-clause-may c = λ lane inside.
    let over : c.args.ticks ≤ c.loop-t.t = c.loop-t-test.false in
    let under : c.loop-t.t ≤ c.args.ticks = c.loop-t.auto.t-end in
    let last : c.loop-t.t ≡ c.args.ticks = omega arith in
    c.loop-t.invariant.may lane inside
    ∙ ap (some_below (λ t. (wave_pair terns_rails lane c.args.analysis.now.waves c.args.gate.0
    t).may)) last
