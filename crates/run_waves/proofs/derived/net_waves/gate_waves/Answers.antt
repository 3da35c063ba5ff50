use Rattle.std.proofs.Common.{◌≡◌, ◌++◌, ◌∷◌, ℕ, List, [], length, ap, arith, subst, length-append}
use Rattle.run_signal.specs.declared.tern.Tern.{Tern}
use Rattle.model_logic.specs.PairMean.{PairWorld, PairSignals, pair_mean}
use Rattle.net_gates.specs.Formulas.{formula_of}
use Rattle.run_step.specs.GatePairs.{kind_pair}
use Rattle.run_waves.specs.waves.Waves.{IsWaveOf}
use Rattle.run_waves.specs.derived.Claims.{pairs_of, declared_world}
use Rattle.run_waves.proofs.{derived_lemmas.Waves.with_wave, derived_lemmas.GateLaws.tree_wave}
use Rattle.run_waves.proofs.derived.net_waves.gate_waves.Goals as goal

pub loop-i-preserved : goal.loop-i-preserved
loop-i-preserved c =
    let line = c.args.compiled.now.line.now in
    let i : ℕ = c.loop-i.i in
    let gates = c.args.compiled.now.net.now.gates in
    let waves : List (List Tern) = c.loop-i.waves.items in
    let new : List (List Tern) = c.push.new.self.items in
    let wave : List Tern = c.in_ok-wave.wave in
    let w : PairWorld = declared_world line c.args.script.now in
    let keys : PairSignals = pairs_of c.args.keys.now in
    let more : new ≡ waves ++ wave ∷ [] = c.in_ok-push.ensures.items in
    let value : ℕ → ℕ → _ = λ j t. pair_mean w keys (formula_of gates j) t in
    let kind : IsWaveOf wave line.horizon
    (λ t. kind_pair w keys (pairs_of waves) c.gate-gate.result.now t) =
    subst (λ (l : List (List Tern)). IsWaveOf wave line.horizon
    (λ t. kind_pair w keys (pairs_of l) c.gate-gate.result.now t)) c.as_slice.ensures.value
    c.in_ok-wave.ensures in
    let now : IsWaveOf wave line.horizon (value i) =
    tree_wave c.rails_read_the_past.ensures c.gates_have_their_kind.ensures w keys gates
    c.args.compiled.now.of_line.laws.gates waves i line.horizon
    c.loop-i.invariant.each c.gate-gate.result.now wave c.gate-gate.ensures.is kind in
    record {
      many = omega (
        arith,
        ap length more,
        length-append waves (wave ∷ []),
        c.loop-i.invariant.many,
      );
      each = with_wave (λ j l. IsWaveOf l line.horizon (value j)) waves new wave i
          c.loop-i.invariant.many more c.loop-i.invariant.each now;
    }
