use Rattle.std.proofs.Common.{length, ap, subst, arith}
use Rattle.run_waves.specs.waves.Waves.{IsWaveOf}
use Rattle.judge_verdict.specs.verdict.PairWavesOf.{PairWavesOf, pair_history}
use Rattle.judge_verdict.proofs.verdict_lemmas.ToldHistory.{wave_read}
use Rattle.judge_verdict.proofs.verdict.pair_waves.PairWaves.trip_runs.Goals as goal

pub returns : goal.returns
returns c =
    let k = c.args.terminal in
    let wave = c.index.result.now in
    let inside = c.self.inside in
    let is = c.self.view_is in
    subst (λ (w : PairWavesOf). IsWaveOf wave w.horizon ((pair_history w).trip k)) is
    (wave_read (length inside.keys.items) inside.horizon inside.trips.items c.self.invariant.1 k
    wave (omega (arith, ap (λ (w : PairWavesOf). w.terminals) is, c.requires)) c.index.ensures)
