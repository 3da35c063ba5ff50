use Rattle.std.proofs.Common.{ℕ, List, arith, subst}
use Rattle.model_history.specs.Rails.{Rails}
use Rattle.run_signal.specs.declared.tern.Tern.{Tern}
use Rattle.run_waves.specs.waves.Waves.{wave_at, ArrivesAlike}
use Rattle.run_waves.proofs.waves_lemmas.DelayLaws.{received_alike}
use Rattle.run_waves.proofs.waves.received.steady_until.Goals as goal

pub returns-clause-same : goal.returns-clause-same
returns-clause-same c = λ k low high.
    let key : List Tern = c.args.newest.now in
    let u : ℕ → Rails = wave_at key in
    let t = c.args.t in
    let a = c.arrives_until-first.result in
    let b = c.arrives_until.result in
    let first : ArrivesAlike u c.args.delay.least t a =
    subst (λ (n : ℕ). ArrivesAlike u n t a) c.least.ensures.least
    c.arrives_until-first.ensures.alike in
    let last : ArrivesAlike u c.args.delay.greatest t b =
    subst (λ (w : List Tern). ArrivesAlike (wave_at w) c.args.delay.greatest t b) c.requires.one
    (subst (λ (n : ℕ). ArrivesAlike (wave_at c.args.oldest.now) n t b) c.greatest.ensures.greatest
    c.arrives_until.ensures.alike) in
    received_alike c.delays_are_their_facts.ensures u
    c.args.delay t k a b c.least.ensures.in_order.ordered first last low
    (omega (arith, c.min.ensures)) (omega (arith, c.min.ensures))
