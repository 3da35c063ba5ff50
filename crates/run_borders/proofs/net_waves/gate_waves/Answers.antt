use Rattle.std.proofs.Common.{ℕ, [], List, subst}
use Rattle.model_logic.specs.PairMean.{PairSignals, pair_mean}
use Rattle.net_gates.specs.Formulas.{formula_of}
use Rattle.run_signal.specs.declared.tern.Tern.{Tern}
use Rattle.run_step.specs.GatePairs.{kind_pair}
use Rattle.run_waves.specs.waves.Waves.{IsWaveOf}
use Rattle.run_waves.specs.derived.Claims.{pairs_of}
use Rattle.run_borders.specs.LooseRuns.{line_of, net_of, world_of}
use Rattle.run_borders.proofs.{Lists.each_more, RightKeys.gate_wave_of}
use Rattle.run_borders.proofs.net_waves.gate_waves.Goals as goal

pub loop-i-preserved : goal.loop-i-preserved
loop-i-preserved c =
    let run = c.args.run.now in
    let i : ℕ = c.loop-i.i in
    let waves : List (List Tern) = c.loop-i.waves.items in
    let wave : List Tern = c.in_ok-wave.wave in
    let keys : PairSignals = pairs_of c.args.keys.now in
    let kind : IsWaveOf wave (line_of run).horizon
    (λ t. kind_pair (world_of run) keys (pairs_of waves) c.gate-gate.result.now t) =
    subst (λ (l : List (List Tern)). IsWaveOf wave (line_of run).horizon
    (λ t. kind_pair (world_of run) keys (pairs_of l) c.gate-gate.result.now t)) c.as_slice.ensures.value
    c.in_ok-wave.ensures in
    record {
      waves = each_more (λ gate w. IsWaveOf w (line_of run).horizon
          (λ t. pair_mean (world_of run) keys (formula_of (net_of run).gates gate) t))
          [] waves c.push.new.self.items wave i c.loop-i.invariant.waves c.in_ok-push.ensures.items
          (gate_wave_of c.rails_read_the_past.ensures c.gates_have_their_kind.ensures run keys waves i
          c.loop-i.invariant.waves.each c.gate-gate.result.now wave c.gate-gate.ensures.is kind);
    }
