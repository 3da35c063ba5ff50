use Rattle.std.proofs.Common.{◌≡◌, ◌<◌, ℕ, List, [], length, get_or, sym, ◌∙◌, ap, subst, arith}
use Rattle.std.proofs.lemmas.Option.{slice_get_within}
use Rattle.run_signal.specs.declared.tern.Tern.{Tern}
use Rattle.run_signal.specs.SentKeys.{SentKeys}
use Rattle.run_signal.specs.declared.level.Level.{Level}
use Rattle.run_step.specs.Ticks.{HasKeys}
use Rattle.run_waves.specs.waves.Waves.{wave_at}
use Rattle.run_waves.specs.derived.Claims.{pairs_of}
use Rattle.judge_match.proofs.matching_lemmas.RecordedLaws.{sent_more, shown_more}
use Rattle.judge_match.proofs.matching.recorded.tracks_of.Goals as goal

pub loop-k-init : goal.loop-k-init
loop-k-init c = record {
  sent = record {
    count = ap length c.new-tracks.ensures.items;
    each = λ k s at.
        let none : length c.new-tracks.result.items ≡ 0 = ap length c.new-tracks.ensures.items in
        let lt : k < length c.new-tracks.result.items =
        slice_get_within c.new-tracks.result.items k s at in
        absurd (omega arith);
  };
  same = λ k t kn lt. absurd (omega arith);
}

pub loop-k-preserved : goal.loop-k-preserved
loop-k-preserved c =
    let line = c.args.line.now in
    let k : ℕ = c.loop-k.k in
    let waves : List (List Tern) = c.args.waves.now in
    let x : SentKeys Level = c.in_ok-track_of.field-0 in
    let before = c.loop-k.invariant in
    let wave : c.nth.result.now ≡ get_or waves k [] = c.nth.ensures in
    let size : length c.nth.result.now ≡ line.horizon =
    ap length wave ∙ c.requires.waves.long k (omega arith) in
    record {
      sent = sent_more line.horizon k c.loop-k.tracks.items c.push.new.self.items x
          c.in_ok-push.ensures.items before.sent
          (subst (λ (n : ℕ). HasKeys n n 0 x) size c.in_ok-track_of.ensures.long);
      same = shown_more line.horizon k c.loop-k.tracks.items c.push.new.self.items x
          c.in_ok-push.ensures.items before.sent (λ j t. (pairs_of waves j t).must) before.same
          (λ t lt. c.in_ok-track_of.ensures.same t (subst (λ (n : ℕ). t < n) (sym size) lt)
          ∙ ap (λ (w : List Tern). (wave_at w t).must) wave);
    }
