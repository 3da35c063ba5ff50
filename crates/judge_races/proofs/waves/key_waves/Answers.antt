use Rattle.std.proofs.Common.{ℕ, List, sym, subst}
use Rattle.model_history.specs.Rails.{Rails}
use Rattle.run_signal.specs.declared.tern.Tern.{Tern}
use Rattle.run_waves.specs.waves.Waves.{IsWaveOf}
use Rattle.judge_verdict.specs.verdict.PairWavesOf.{pair_history}
use Rattle.judge_verdict.specs.verdict.OneEachLaws.{one_more}
use Rattle.judge_races.proofs.waves.key_waves.Goals as goal

pub loop-k-preserved : goal.loop-k-preserved
loop-k-preserved c =
    let key : ℕ → ℕ → Rails = (pair_history c.args.waves.now).key in
    one_more (λ k wave. IsWaveOf wave c.args.line.now.horizon (key k)) c.loop-k.k
    c.loop-k.keys.items c.push.new.self.items c.in_ok-wave.wave c.in_ok-push.ensures.items
    (subst (λ (n : ℕ). IsWaveOf c.in_ok-wave.wave n (key c.loop-k.k)) c.requires.horizon
    (subst (λ (wave : List Tern). IsWaveOf wave c.args.waves.now.horizon (key c.loop-k.k))
    (sym c.in_ok-wave.ensures) c.key_runs.ensures)) c.loop-k.invariant
