-- The waves of tracks.
use Rattle.std.proofs.Common.{◌≡◌, ℕ, List, ◌∷◌, ◌++◌, [], Some, length, ◌+◌, length-append}
use Rattle.std.proofs.Common.{sym, ◌∙◌, ap, subst, arith, ⊎_elim}
use Rattle.std.specs.Prelude.{slice_get}
use Rattle.run_signal.specs.{declared.tern.Tern.Tern, Terns.tern_rails}
use Rattle.run_signal.specs.SentKeys.{SentKeys}
use Rattle.run_waves.specs.waves.Waves.{wave_at, IsWaveOf}
use Rattle.model_history.specs.ListLaws.{at_push}
use Rattle.run_changes.specs.changes.Tracks.{pair_of}
use Rattle.judge_verdict.specs.verdict.PairWavesOf.{AreWavesOf, track_pairs}

-- a wave with the values of a track has the track's pairs
pub of_track : (tracks : List (SentKeys Tern)) (k horizon : ℕ) (track : SentKeys Tern)
    (wave : List Tern) → slice_get tracks k ≡ Some track → length track.keys ≡ horizon
    → IsWaveOf wave (length track.keys) (wave_at track.keys)
    → IsWaveOf wave horizon (track_pairs tracks k)
of_track tracks k horizon track wave at long is = record {
  long = is.long ∙ long;
  values = λ t early.
      is.values t (omega (arith, long))
      ∙ sym (ap (pair_of (λ x _. tern_rails x) 0 t) at);
}

-- one wave more
pub one_more : (tracks : List (SentKeys Tern)) (n horizon : ℕ) (wave : List Tern)
    (waves new : List (List Tern)) → new ≡ waves ++ wave ∷ []
    → IsWaveOf wave horizon (track_pairs tracks n)
    → AreWavesOf n horizon (track_pairs tracks) waves
    → AreWavesOf (n + 1) horizon (track_pairs tracks) new
one_more tracks n horizon wave waves new more here so_far = record {
  count = ap length more ∙ length-append waves (wave ∷ []) ∙ ap (λ (k : ℕ). k + 1) so_far.count;
  each = λ k other at.
      ⊎_elim (λ before. so_far.each k other before)
      (λ last.
      subst (λ (w : List Tern). IsWaveOf w horizon (track_pairs tracks k)) (sym last.1)
      (subst (λ (j : ℕ). IsWaveOf wave horizon (track_pairs tracks j))
      (sym (last.0 ∙ so_far.count)) here))
      (at_push waves wave other k (ap (λ (l : List (List Tern)). slice_get l k) (sym more) ∙ at));
}
