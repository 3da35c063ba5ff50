use Rattle.std.proofs.Common.{List, sym, ◌∙◌, ap, arith, ⊎_elim}
use Rattle.std.proofs.lemmas.Bool.{cases_lt}
use Rattle.run_signal.specs.declared.tern.Tern.{Tern}
use Rattle.run_waves.specs.waves.Waves.{wave_at}
use Rattle.run_waves.proofs.waves.first.first_from.Goals as goal

pub returns-then-is : goal.returns-then-is
returns-then-is g c = λ rail tells. record {
  from_there = c.stretches.invariant.later;
  within = c.stretches-test.true;
  on = ap (λ (w : List Tern). rail (wave_at w c.stretches.t)) (sym c.stretches.invariant.along)
      ∙ ap rail (c.stretch-run.ensures.rails c.stretches.t (omega arith) c.stretch-run.ensures.later)
      ∙ sym (tells _ _ c.is.ensures) ∙ c.if-is.true;
  before = c.stretches.invariant.off rail tells;
}

pub stretches-preserved : goal.stretches-preserved
stretches-preserved g c = record {
  along = c.stretch-run.ensures.same ∙ c.stretches.invariant.along;
  later = omega (arith, c.stretch-run.ensures.later, c.stretches.invariant.later);
  off = λ rail tells r low high. ⊎_elim
      (λ past. c.stretches.invariant.off rail tells r low past)
      (λ here. ap (λ (w : List Tern). rail (wave_at w r)) (sym c.stretches.invariant.along)
      ∙ ap rail (c.stretch-run.ensures.rails r here high)
      ∙ sym (tells _ _ c.is.ensures) ∙ c.if-is.false)
      (cases_lt r c.stretches.t);
}

pub returns : goal.returns
returns g c = λ rail tells r low high.
    c.stretches.invariant.off rail tells r low (omega (arith, high, c.stretches-test.false))
