use Rattle.std.proofs.Common.{◌≡◌, ◌≢◌, ◌≤◌, ◌<◌, ◌+◌, ◌++◌, ℕ, List, length, sym, ◌∙◌, ap, arith}
use Rattle.std.proofs.Common.{⊎_elim, rules}
use Rattle.std.proofs.lemmas.Bool.{cases_lt}
use denote.Enum.Bare.{same_true, same_false}
use Rattle.model_history.specs.{Rails.Rails, Rails.Ends, Rails.rails_delayed}
use Rattle.model_history.specs.Laws.{DelaysReadEarlierTicks}
use Rattle.run_signal.specs.contracts.tern.Tern.{the_type}
use Rattle.run_signal.specs.Terns.{tern_rails}
use Rattle.run_signal.specs.TernLaws.{tern_once}
use Rattle.run_signal.specs.declared.tern.Tern.{Tern}
use Rattle.run_waves.specs.waves.Waves.{wave_at}
use Rattle.run_waves.proofs.{waves_lemmas.WaveLaws.wave_at-front}
use Rattle.run_waves.proofs.waves.received.raw_until.Goals as goal

pub received-requires-clause-known : goal.received-requires-clause-known
received-requires-clause-known c =
    omega (
      arith,
      ap length c.stretches.invariant.oldest,
      c.len.ensures.length,
      c.least.ensures.least,
    )

pub steady_until-end-requires-in-stretches-clause-one :
    goal.steady_until-end-requires-in-stretches-clause-one
steady_until-end-requires-in-stretches-clause-one c =
    c.stretches.invariant.oldest ∙ sym c.stretches.invariant.newest

pub steady_until-end-requires-in-stretches-clause-known :
    goal.steady_until-end-requires-in-stretches-clause-known
steady_until-end-requires-in-stretches-clause-known c =
    omega (
      arith,
      ap length c.stretches.invariant.newest,
      c.len.ensures.length,
      c.least.ensures.least,
    )

pub stretches-preserved : goal.stretches-preserved
stretches-preserved c =
    let key : List Tern = c.args.key.now in
    let t : ℕ = c.args.t in
    let end : ℕ = c.stretches.end in
    let next = c.steady_until-end-in-stretches in
    let value : List Tern → ℕ → Rails = λ w k. rails_delayed (wave_at w) c.args.delay k in
    let newest : c.stretches.newest ≡ key = c.stretches.invariant.newest in
    let oldest : c.stretches.oldest ≡ key = c.stretches.invariant.oldest in
    let same : c.received.result ≡ c.received-first.result =
    same_true the_type (search rules) _ _ (sym c.eq.ensures ∙ c.if-eq.true) in
    let here : value key end ≡ value key t =
    ap (λ (w : List Tern). value w end) (sym oldest)
    ∙ sym c.received.ensures ∙ ap tern_rails same ∙ c.received-first.ensures
    ∙ ap (λ (w : List Tern). value w t) c.cursor-oldest.ensures in
    record {
      newest = next.ensures.newest ∙ newest;
      oldest = next.ensures.oldest ∙ oldest;
      later = omega (arith, next.ensures.later, c.stretches.invariant.later);
      limited = omega (arith, next.ensures.inside, ap length newest);
      same = λ k low high. ⊎_elim
          (λ before. c.stretches.invariant.same k low before)
          (λ after. ap (λ (w : List Tern). value w k) (sym newest)
          ∙ next.ensures.same k after high
          ∙ ap (λ (w : List Tern). value w end) newest ∙ here)
          (cases_lt k end);
    }

pub returns-else-eq-clause-same : goal.returns-else-eq-clause-same
returns-else-eq-clause-same c =
    let key : List Tern = c.args.key.now in
    let t : ℕ = c.args.t in
    let end : ℕ = c.stretches.end in
    let value : List Tern → ℕ → Rails = λ w k. rails_delayed (wave_at w) c.args.delay k in
    let oldest : c.stretches.oldest ≡ key = c.stretches.invariant.oldest in
    let differs : c.received.result ≢ c.received-first.result =
    same_false the_type _ _ (sym c.eq.ensures ∙ c.if-eq.false) in
    record {
      later = c.stretches.invariant.later;
      limited = c.stretches.invariant.limited;
      same = c.stretches.invariant.same;
      greatest = λ m past most alike. ⊎_elim
          (λ longer. absurd (differs (tern_once c.received.result c.received-first.result
          (c.received.ensures ∙ ap (λ (w : List Tern). value w end) oldest
          ∙ alike end (omega (arith, c.stretches.invariant.later)) longer
          ∙ ap (λ (w : List Tern). value w t) (sym c.cursor-oldest.ensures)
          ∙ sym c.received-first.ensures))))
          (λ shorter. shorter)
          (cases_lt end m);
    }

-- it is so too where more of the key is known
with_more : DelaysReadEarlierTicks → (key more : List Tern) (delay : Ends) (t end k : ℕ)
    → end ≤ length key + delay.least → k < end
    → rails_delayed (wave_at key) delay k ≡ rails_delayed (wave_at key) delay t
    → rails_delayed (wave_at (key ++ more)) delay k ≡ rails_delayed (wave_at key) delay t
with_more law key more delay t end k limited high same =
    law.rails (wave_at (key ++ more)) (wave_at key) (λ _. delay) k
    (λ r early _. wave_at-front key more r (omega arith))
    ∙ same

pub returns-else-eq-clause-longer : goal.returns-else-eq-clause-longer
returns-else-eq-clause-longer c = λ more k low high.
    with_more c.delays_read_earlier_ticks.ensures c.args.key.now more c.args.delay c.args.t
    c.stretches.end k c.stretches.invariant.limited high (c.stretches.invariant.same k low high)

pub returns-after-stretches-clause-longer : goal.returns-after-stretches-clause-longer
returns-after-stretches-clause-longer c = λ more k low high.
    with_more c.delays_read_earlier_ticks.ensures c.args.key.now more c.args.delay c.args.t
    c.stretches.end k c.stretches.invariant.limited high (c.stretches.invariant.same k low high)
