use Rattle.judge_verdict.specs.verdict.PairWavesOf.{AreWavesOf, track_pairs}
use Rattle.judge_verdict.proofs.verdict.track_waves.track_waves.Given as goal

abbrev pub invariant-loop-track : goal.invariant-loop-track
invariant-loop-track l =
    AreWavesOf l.track-index l.horizon (track_pairs l.tracks) l.waves.items
