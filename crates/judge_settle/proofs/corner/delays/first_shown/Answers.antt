use Rattle.std.proofs.Common.{ℕ, List, sym, ap, subst, ◌∙◌, arith, ⊎_elim}
use Rattle.std.proofs.lemmas.Bool.{cases_lt}
use Rattle.model_history.specs.Rails.{Rails}
use Rattle.model_settle.specs.Sides.{value_on}
use Rattle.model_settle.specs.Worst.{shows}
use Rattle.run_signal.specs.declared.tern.Tern.{Tern}
use Rattle.run_waves.specs.waves.Waves.{IsWaveOf}
use Rattle.judge_verdict.specs.verdict.PairWavesOf.{pair_history}
use Rattle.judge_settle.specs.corner.Named.{rail_named}
use Rattle.judge_settle.proofs.corner.delays.first_shown.Goals as goal

pub stretches-preserved : goal.stretches-preserved
stretches-preserved c =
    let rail = rail_named c.args.rail in
    let key : ℕ → Rails = (pair_history c.args.waves.now).key c.args.sender in
    let wave = c.stretches.invariant.wave in
    let inside = c.stretch-run.ensures.inside in
    record {
      wave = subst (λ (w : List Tern). IsWaveOf w c.args.waves.now.horizon key)
          (sym c.stretch-run.ensures.same) wave;
      later = omega (arith, c.stretch-run.ensures.later, c.stretches.invariant.later);
      inside = omega (arith, inside, wave.long);
      none = λ s low high. ⊎_elim
          (λ past. c.stretches.invariant.none s low past)
          (λ here. ap (λ (x : Rails). shows rail (value_on rail x))
          (sym (wave.values s (omega (arith, high, inside, wave.long)))
          ∙ c.stretch-run.ensures.rails s here high)
          ∙ ap (shows rail) (sym c.reads.ensures) ∙ sym c.looks_for.ensures ∙ c.if-looks_for.false)
          (cases_lt s c.stretches.s);
    }
