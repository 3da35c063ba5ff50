use Rattle.std.proofs.Common.{◌≡◌, ℕ, ◌+◌, ◌<◌, List, ◌∷◌, [], Some, ap, subst, sym, ⊎_elim, length, ◌∙◌, arith}
use Rattle.std.proofs.Common.{length-append}
use Rattle.std.specs.Prelude.{slice_get}
use Rattle.model_line.specs.{Channels.from_of, Parameters.delay_param, Parameters.param_count}
use Rattle.model_history.specs.ListLaws.{at_push}
use Rattle.run_step.specs.declared.delays.Delay.{Delay}
use Rattle.run_step.proofs.delays.fresh_delays.Goals as goal

-- no delay is in an empty list
none_yet : {S : Type 0} (said : ℕ → Delay S → Type 0) (delays : List (Delay S)) → delays ≡ []
    → (c : ℕ) (d : Delay S) → slice_get delays c ≡ Some d → said c d
none_yet said [] none c d at = absurd (cc)
none_yet said (x ∷ delays) none c d at = absurd (cc)

pub loop-channel-init : goal.loop-channel-init
loop-channel-init g c =
    let line = c.args.line.now in
    let xs = c.new-delays.result.items in
    let none : xs ≡ [] = c.new-delays.ensures.items in
    record {
      count = ap length none;
      from = none_yet (λ k d. d.from ≡ from_of line.channels.items k) xs none;
      param = none_yet (λ k d. d.param ≡ delay_param line k) xs none;
      there = none_yet (λ k d. d.param < param_count line) xs none;
      over = none_yet (λ k d. d.until ≡ 0) xs none;
    }

pub returns-clause-delays : goal.returns-clause-delays
returns-clause-delays g c =
    let inv = c.loop-channel.invariant in
    record {
      count = omega (
        arith,
        inv.count,
        c.loop-channel.auto.channel-end,
        c.loop-channel-test.false,
        c.len-channel-end.ensures,
        c.args.line.now.channels.ok.0,
      );
      from = inv.from;
      param = inv.param;
      there = inv.there;
    }

pub returns-clause-over : goal.returns-clause-over
returns-clause-over g c = c.loop-channel.invariant.over

pub loop-channel-preserved : goal.loop-channel-preserved
loop-channel-preserved g c =
    let line = c.args.line.now in
    let old = c.loop-channel.delays.items in
    let new = c.push.new.self.items in
    let x = c.own_delay-delay.result in
    let inv = c.loop-channel.invariant in
    let i = c.loop-channel.channel in
    let each : (P : ℕ → Delay _ → Type 0) → P i x
    → ((k : ℕ) (d : Delay _) → slice_get old k ≡ Some d → P k d)
    → (k : ℕ) (d : Delay _) → slice_get new k ≡ Some d → P k d =
    λ P now before k d at.
    ⊎_elim (λ low. before k d low)
    (λ p. let here : k ≡ i = p.0 ∙ inv.count in
    subst (P k) (sym p.1) (subst (λ (j : ℕ). P j x) (sym here) now))
    (at_push old x d k (subst (λ l. slice_get l k ≡ Some d) c.in_ok-push.ensures.items at)) in
    record {
      count = ap length c.in_ok-push.ensures.items ∙ length-append old (x ∷ [])
          ∙ ap (λ (n : ℕ). n + 1) inv.count;
      from = each (λ k d. d.from ≡ from_of line.channels.items k) c.own_delay-delay.ensures.from
          inv.from;
      param = each (λ k d. d.param ≡ delay_param line k) c.own_delay-delay.ensures.param inv.param;
      there = each (λ k d. d.param < param_count line) c.own_delay-delay.ensures.there inv.there;
      over = each (λ k d. d.until ≡ 0) c.own_delay-delay.ensures.over inv.over;
    }
