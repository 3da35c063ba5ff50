use Rattle.std.proofs.Common.{◌≡◌, ℕ, ◌<◌, Bool, true, false, IsTrue, IsFalse, refl, sym, ◌∙◌}
use Rattle.std.proofs.Common.{ap, arith, length, slice_index, inl, inr, ⊎_elim, subst}
use Rattle.std.proofs.lemmas.Bool.{cases_lt}
use Rattle.std.specs.Prelude.{if◌then◌else◌}
use Rattle.model_history.specs.Rails.{Rails, Ends, must_of, single, rails_at, rails_delayed}
use Rattle.run_signal.specs.{Bits.bit_on, Bits.bit_rails, Lanes.in_lane}
use Rattle.run_signal.proofs.carried_lanes.Lanes64Carried.arrive.Goals as goal

-- a lane that was chosen, or was so before
chosen_or_before : (alike : Bool) (now key before right : Rails)
    → now ≡ (if alike then key else before) → (IsTrue alike → key ≡ right)
    → (IsFalse alike → before ≡ right) → now ≡ right
chosen_or_before true now key before right is new old = is ∙ new refl
chosen_or_before false now key before right is new old = is ∙ old refl

pub next_delay-init : goal.next_delay-init
next_delay-init c = record {
  within = omega arith;
  passed = λ k inside before. absurd (omega arith);
  received = λ k inside off.
      let on : bit_on c.known-left.result k ≡ true = ap must_of (c.known-left.ensures k inside) in
      let e : true ≡ false = sym on ∙ off in
      absurd (cc);
}

pub next_delay-preserved : goal.next_delay-preserved
next_delay-preserved c =
    let sent = c.args.sent.now.keys in
    let delay = c.args.delay.now in
    let left = c.next_delay.left in
    let alike = c.alike-alike.result in
    record {
      within = c.first-lane.ensures.limited;
      passed = c.first-lane.ensures.off;
      received = λ k inside off.
          let u = rails_at (in_lane bit_rails k sent) in
          chosen_or_before (bit_on alike k) (bit_rails c.chosen-received.result k)
          (bit_rails c.key_before.result k) (bit_rails c.next_delay.received k)
          (rails_delayed u (single (slice_index delay k)) (length sent))
          (c.chosen-received.ensures k inside)
          (λ on.
          c.key_before.ensures k inside
          ∙ ap (λ (n : ℕ). rails_delayed u (single n) (length sent)) c.least-c.ensures.least
          ∙ ap (λ (e : Ends). rails_delayed u e (length sent))
          (sym (c.alike-alike.ensures.alike k inside on)))
          (λ out.
          ⊎_elim (λ before. c.next_delay.invariant.received k inside before)
          (λ on. let e : true ≡ false = sym on ∙ out in absurd (cc))
          ((c.without-left.ensures k inside).0 off));
    }

pub next_delay-smaller : goal.next_delay-smaller
next_delay-smaller c =
    let lane = c.next_delay.lane in
    let next = c.first-lane.result in
    let here : lane < 64 = c.next_delay-test.true in
    ⊎_elim
    (λ later. omega arith)
    (λ low.
    let inside : next < 64 = omega arith in
    let on : bit_on c.without-left.result next ≡ true = c.first-lane.ensures.on inside in
    let off : bit_on c.without-left.result next ≡ false =
    (c.without-left.ensures next inside).1
    (⊎_elim
    (λ before. inl (c.next_delay.invariant.passed next inside before))
    (λ high. let same : lane ≡ next = omega arith in
    inr (subst (λ (k : ℕ). IsTrue (bit_on c.alike-alike.result k)) same
    c.alike-alike.ensures.itself))
    (cases_lt next lane)) in
    let e : true ≡ false = sym on ∙ off in
    absurd (cc))
    (cases_lt lane next)

pub returns : goal.returns
returns c = λ k inside.
    c.next_delay.invariant.received k inside
    (c.next_delay.invariant.passed k inside (omega (arith, inside, c.next_delay-test.false)))
