use Rattle.std.proofs.Common.{◌≡◌, ◌∙◌, sym, ap, ℕ, Bool}
use Rattle.std.proofs.lemmas.Bool.Decides.{same_from_decides}
use Rattle.model_history.specs.Rails.{Ends, Rails, rails_delayed}
use Rattle.run_signal.specs.Spans.{ends_of}
use Rattle.run_waves.specs.waves.Waves.{wave_at}
use Rattle.run_waves.proofs.waves.received.received.Goals as goal
use Rattle.run_waves.specs.waves.WaveLaws.{wave_sound}

pub returns : goal.returns
returns c =
    let t : ℕ = c.args.t in
    let ends : Ends = ends_of c.least-least.result c.greatest-greatest.result in
    let u : ℕ → Rails = wave_at c.args.key.now in
    let e : ends ≡ c.args.delay = ap (λ (n : ℕ).
    ends_of n c.greatest-greatest.result) c.least-least.ensures.least
    ∙ ap (λ (n : ℕ). ends_of c.args.delay.least n) c.greatest-greatest.ensures.greatest in
    let must : c.must_come.result ≡ (rails_delayed u c.args.delay t).must =
    same_from_decides c.must_come.result (rails_delayed u ends t).must c.must_come.ensures
    (c.delays_are_their_facts.ensures.must u (λ _. ends) t) ∙ ap (λ (x : Ends). (rails_delayed u x t).must) e in
    let may : c.may_come.result ≡ (rails_delayed u c.args.delay t).may =
    same_from_decides c.may_come.result (rails_delayed u ends t).may c.may_come.ensures
    (c.delays_are_their_facts.ensures.may u (λ _. ends) t) ∙ ap (λ (x : Ends). (rails_delayed u x t).may) e in
    c.from_rails.ensures (λ on. may
    ∙ c.delays_stay_sound.ensures u (λ _. c.args.delay) t c.least-least.ensures.in_order.ordered
    (λ r _. wave_sound c.args.key.now r) (sym must ∙ on))
    ∙ ap (λ (b : Bool). record { must = b; may = c.may_come.result }) must
    ∙ ap (λ (b : Bool). record { must = (rails_delayed u c.args.delay t).must; may = b }) may
