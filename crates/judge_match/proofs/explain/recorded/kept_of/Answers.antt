use Rattle.std.proofs.Common.{subst, sym, refl, List}
use Rattle.run_waves.specs.derived.Claims.{pairs_of}
use Rattle.run_signal.specs.declared.tern.Tern.{Tern}
use Rattle.run_waves.specs.waves.Waves.{wave_at}
use Rattle.judge_match.specs.explain.Asked.{IsRecorded}
use Rattle.model_history.specs.ListLaws.{each_more}
use Rattle.judge_match.proofs.explain_lemmas.ListLaws.{count_more}
use Rattle.judge_match.proofs.explain.recorded.kept_of.Goals as goal

pub loop-k-preserved : goal.loop-k-preserved
loop-k-preserved c = record {
  count = count_more c.loop-k.all.items c.push.new.self.items c.in_ok-kept_of_wave.field-0
      c.loop-k.k _ c.in_ok-push.ensures.items c.loop-k.invariant.count refl;
  each = each_more (λ k r. IsRecorded c.args.within c.args.line.now.horizon
      (λ t. (pairs_of c.args.waves.now k t).must) r)
      c.loop-k.all.items c.push.new.self.items c.in_ok-kept_of_wave.field-0
      c.loop-k.k c.in_ok-push.ensures.items (sym c.loop-k.invariant.count)
      c.loop-k.invariant.each
      (subst (λ (w : List Tern). IsRecorded c.args.within c.args.line.now.horizon
      (λ t. (wave_at w t).must) c.in_ok-kept_of_wave.field-0) c.nth-wave.ensures
      c.in_ok-kept_of_wave.ensures);
}
