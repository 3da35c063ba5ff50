use Rattle.std.proofs.Common.{◌≤◌, ℕ, List, sym, subst, ◌∙◌, arith}
use Rattle.model_history.specs.Rails.{Rails}
use Rattle.run_signal.specs.declared.tern.Tern.{Tern}
use Rattle.run_waves.specs.waves.Waves.{IsWaveOf}
use Rattle.judge_verdict.specs.verdict.PairWavesOf.{pair_history}
use Rattle.judge_settle.proofs.corner.delays.alike_until.Goals as goal

pub returns-clause-alike : goal.returns-clause-alike
returns-clause-alike c =
    let key : ℕ → Rails = (pair_history c.args.waves.now).key c.args.sender in
    let wave : IsWaveOf c.cursor-keys.result c.args.waves.now.horizon key =
    subst (λ (w : List Tern). IsWaveOf w c.args.waves.now.horizon key) (sym c.cursor-keys.ensures)
    c.key_runs.ensures in
    let end : c.stretch.result.end ≤ c.args.waves.now.horizon =
    omega (arith, c.stretch.ensures.inside, wave.long) in
    record {
      later = c.stretch.ensures.later;
      same = λ r late early.
          sym (wave.values r (omega (arith, early, end))) ∙ c.stretch.ensures.rails r late early
          ∙ sym (c.stretch.ensures.rails c.args.s (omega arith) c.stretch.ensures.later)
          ∙ wave.values c.args.s c.requires.tick;
    }
