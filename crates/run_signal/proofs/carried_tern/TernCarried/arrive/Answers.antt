use Rattle.std.proofs.Common.{◌≡◌, ◌∙◌, sym, ap, length, ℕ, Bool}
use Rattle.std.proofs.lemmas.Bool.Decides.{same_from_decides}
use Rattle.model_history.specs.Rails.{Ends, rails_at, rails_delayed}
use Rattle.run_signal.specs.{Lanes.in_lane, Spans.ends_of, Terns.tern_rails}
use Rattle.run_signal.proofs.SentLaws.{sent_sound}
use Rattle.run_signal.proofs.carried_tern.TernCarried.arrive.Goals as goal

pub returns : goal.returns
returns c = λ lane inside.
    let t = length c.args.sent.now.keys in
    let ends : Ends = ends_of c.least-least.result c.greatest-greatest.result in
    let u = rails_at (in_lane (λ v _. tern_rails v) lane c.args.sent.now.keys) in
    let e : ends ≡ c.args.delay.now = ap (λ (n : ℕ).
    ends_of n c.greatest-greatest.result) c.least-least.ensures.least
    ∙ ap (λ (n : ℕ). ends_of c.args.delay.now.least n) c.greatest-greatest.ensures.greatest in
    let must : c.must_come.result ≡ (rails_delayed u c.args.delay.now t).must =
    same_from_decides c.must_come.result (rails_delayed u ends t).must c.must_come.ensures
    (c.delays_are_their_facts.ensures.must u (λ _. ends) t) ∙ ap (λ (x : Ends). (rails_delayed u x t).must) e in
    let may : c.may_come.result ≡ (rails_delayed u c.args.delay.now t).may =
    same_from_decides c.may_come.result (rails_delayed u ends t).may c.may_come.ensures
    (c.delays_are_their_facts.ensures.may u (λ _. ends) t) ∙ ap (λ (x : Ends). (rails_delayed u x t).may) e in
    c.from_rails.ensures (λ on. may
    ∙ c.delays_stay_sound.ensures u (λ _. c.args.delay.now) t c.least-least.ensures.in_order.ordered
    (λ r _ yes. sent_sound c.args.sent.now.keys r yes) (sym must ∙ on))
    ∙ ap (λ (b : Bool). record { must = b; may = c.may_come.result }) must
    ∙ ap (λ (b : Bool). record { must = (rails_delayed u c.args.delay.now t).must; may = b }) may
