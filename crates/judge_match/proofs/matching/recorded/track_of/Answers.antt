use Rattle.std.proofs.Common.{◌≡◌, ◌+◌, ◌-◌, ◌<◌, ◌++◌, ℕ, List, length, replicate, sym, ◌∙◌, ap}
use Rattle.std.proofs.Common.{arith, ⊎_elim}
use Rattle.std.proofs.lemmas.Bool.{cases_lt}
use Rattle.model_history.specs.Rails.{must_of}
use Rattle.run_signal.specs.{declared.level.Level.Level, Levels.level_rails, Lanes.in_lane}
use Rattle.run_signal.specs.declared.tern.Tern.{Tern}
use Rattle.run_waves.specs.waves.Waves.{wave_at}
use Rattle.judge_match.proofs.matching_lemmas.RecordedLaws.{on_before, on_after}
use Rattle.judge_match.proofs.matching.recorded.track_of.Goals as goal

pub stretches-preserved : goal.stretches-preserved
stretches-preserved c =
    let old : List Level = c.stretches.track.keys in
    let new : List Level = c.push.new.self.keys in
    let n : ℕ = c.stretch-seen.result.end - c.len-t.result in
    let is : in_lane (λ y _. level_rails y) 0 new
    ≡ in_lane (λ y _. level_rails y) 0 old ++ replicate n (level_rails c.known.result) =
    c.push.ensures.keys 0 (omega arith) in
    let first : c.len-t.result ≡ length old = c.len-t.ensures.length in
    let count : length new ≡ length old + n = c.push.ensures.length in
    let runs : c.stretches.runs ≡ c.args.wave.now = c.stretches.invariant.runs in
    record {
      runs = c.stretch-seen.ensures.same ∙ runs;
      horizon = c.push.ensures.horizon ∙ c.stretches.invariant.horizon;
      fits = omega (arith, c.stretch-seen.ensures.inside, c.stretch-seen.ensures.later, ap length runs);
      same = λ t below.
          ⊎_elim
          (λ early.
          on_before old new c.known.result n is t early ∙ c.stretches.invariant.same t early)
          (λ late.
          let high : t < length old + n = omega arith in
          on_after old new c.known.result n is t late high
          ∙ ap must_of (c.known.ensures 0 (omega arith)) ∙ c.must.ensures
          ∙ sym (ap (λ (w : List Tern). (wave_at w t).must) (sym runs)
          ∙ ap must_of (c.stretch-seen.ensures.rails t (omega arith)
          (omega (arith, c.stretch-seen.ensures.later)))))
          (cases_lt t (length old));
    }
