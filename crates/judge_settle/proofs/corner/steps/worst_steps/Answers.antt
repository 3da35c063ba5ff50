use Rattle.std.proofs.Common.{◌≡◌, ℕ, List, sym, subst, arith}
use Rattle.model_line.specs.Parameters.{channel_count}
use Rattle.model_timing.specs.declared.step.Step.{Step}
use Rattle.judge_verdict.specs.verdict.PairWavesOf.{pair_history}
use Rattle.judge_settle.specs.corner.Named.{rail_named}
use Rattle.judge_settle.specs.{corner.Corner.corner, corner.Steps.AreStepsUpTo}
use Rattle.judge_settle.proofs.corner_lemmas.StepLaws.{no_steps, next_channel}
use Rattle.judge_settle.proofs.corner.steps.worst_steps.Goals as goal

pub loop-channel-init : goal.loop-channel-init
loop-channel-init c =
    let line = c.args.line.now in
    let delay : ℕ → ℕ → ℕ =
    (corner line (rail_named c.args.rail) (pair_history c.args.waves.now)).delay in
    subst (λ (s : List (Step ℕ)). AreStepsUpTo line delay c.args.numbers.now 0 1 s)
    (sym c.new-steps.ensures.items) (no_steps line delay c.args.numbers.now)

pub loop-channel-preserved : goal.loop-channel-preserved
loop-channel-preserved c =
    let line = c.args.line.now in
    next_channel line (corner line (rail_named c.args.rail) (pair_history c.args.waves.now)).delay
    c.args.numbers.now c.settings_are_counted.ensures c.loop-channel.channel
    c.push_steps.new.steps.items (omega arith) c.in_ok-push_steps.ensures

pub returns : goal.returns
returns c =
    let line = c.args.line.now in
    let same : c.loop-channel.channel ≡ channel_count line = omega arith in
    subst (λ (n : ℕ). AreStepsUpTo line
    (corner line (rail_named c.args.rail) (pair_history c.args.waves.now)).delay c.args.numbers.now
    n 1 c.loop-channel.steps.items) same c.loop-channel.invariant
