use Rattle.std.proofs.Common.{◌≡◌, ℕ, ◌-◌, ◌<◌, ◌≤◌, true, false, IsTrue, arith, ap, sym, ◌∙◌, subst}
use Rattle.std.proofs.Common.{inl, inr, ⊎_elim}
use Rattle.std.proofs.lemmas.Bool.{cases_lt}
use Rattle.model_history.specs.Rails.{Ends, must_of}
use Rattle.run_signal.specs.Bits.{bit_on}
use Rattle.run_step.specs.Lasts.{ArrivesAs, EndLasts, EndStays}
use Rattle.run_step.specs.DelayLaws.{arrives_as, arrives_fewer, end_fewer}
use Rattle.run_changes.proofs.changes.arrivals.arrival_stays.Goals as goal

pub next_span-init : goal.next_span-init
next_span-init g c = record {
  some = omega arith;
  limited = omega arith;
  last = λ some. absurd (omega arith);
  few = λ some. absurd (omega arith);
  passed = λ k inside before. absurd (omega arith);
  keeps = λ k at inside off u is.
      let on : bit_on c.known-left.result k ≡ true = ap must_of (c.known-left.ensures k inside) in
      let e : true ≡ false = sym on ∙ off in
      absurd (cc);
}

pub next_span-preserved : goal.next_span-preserved
next_span-preserved g c =
    let t = c.args.t in
    let lane = c.next_span.lane in
    let a = c.least-least.result in
    let b = c.greatest-greatest.result in
    let m = c.sooner-first.result in
    let n = c.sooner-stays.result in
    let below_m : m ≤ c.next_span.stays = c.sooner-first.ensures.limited in
    let below_n : n ≤ m = c.sooner-stays.ensures.limited in
    let limit : c.next_span.stays ≤ 4000 = c.next_span.invariant.limited in
    let ends = g.V.Signal.signal.ends c.args.delay.now in
    let lanes : c.LANES-lanes.result ≡ g.V.Signal.signal.lanes = c.LANES-lanes.ensures
    ∙ sym g.met.V.Signal.lanes_are in
    let inside : lane < g.V.Signal.signal.lanes = subst (λ k. lane < k) lanes c.next_span-test.true in
    let keys = c.args.key.now.keys in
    let some : 1 ≤ a =
    subst (λ (k : ℕ). 1 ≤ k) (sym c.least-least.ensures.least) (c.requires.later lane inside) in
    let first : EndStays g.V.Signal.signal keys t a m =
    c.sooner-first.ensures.keeps (λ same.
    subst (λ (k : ℕ). EndStays g.V.Signal.signal keys t k c.next_span.stays) (sym same)
    (c.next_span.invariant.last (subst (λ (k : ℕ). 1 ≤ k) same some))) in
    let second : EndStays g.V.Signal.signal keys t b n =
    c.sooner-stays.ensures.keeps (λ same.
    subst (λ (k : ℕ). EndStays g.V.Signal.signal keys t k m) (sym same) first) in
    record {
      some = c.sooner-stays.ensures.some;
      limited = omega arith;
      last = λ _. second;
      few = λ _. c.alike-alike.ensures.few;
      passed = c.first-lane.ensures.off;
      keeps = λ k at low off u is.
          ⊎_elim
          (λ before. arrives_fewer u (ends k) (t - 1) t n c.next_span.stays (omega arith)
          (c.next_span.invariant.keeps k at low before u is))
          (λ on. subst (λ (e : Ends). ArrivesAs u e (t - 1) t n)
          (sym (c.alike-alike.ensures.alike k at on))
          (arrives_as c.history_laws.ensures u (t - 1) t n (ends lane)
          (c.least-least.ensures.in_order lane inside).ordered
          (subst (λ d. EndLasts u (t - 1) d t n) c.least-least.ensures.least
          (end_fewer u (t - 1) a t n m below_n (first k u at is)))
          (subst (λ d. EndLasts u (t - 1) d t n) c.greatest-greatest.ensures.greatest
          (second k u at is))))
          ((c.without-left.ensures k low).0 off);
    }

pub next_span-smaller : goal.next_span-smaller
next_span-smaller g c =
    let lane = c.next_span.lane in
    let next = c.first-lane.result in
    let lanes : c.LANES-lanes.result ≡ g.V.Signal.signal.lanes = c.LANES-lanes.ensures
    ∙ sym g.met.V.Signal.lanes_are in
    let few : g.V.Signal.signal.lanes ≤ 64 = c.alike-alike.ensures.few in
    let here : lane < c.LANES-lanes.result = c.next_span-test.true in
    ⊎_elim
    (λ later. omega (arith, later, here))
    (λ low.
    let inside : next < 64 = omega (arith, low, here, lanes, few) in
    let on : bit_on c.without-left.result next ≡ true = c.first-lane.ensures.on inside in
    let off : bit_on c.without-left.result next ≡ false =
    (c.without-left.ensures next inside).1
    (⊎_elim
    (λ before. inl (c.next_span.invariant.passed next inside before))
    (λ high. let same : lane ≡ next = omega (arith, low, high) in
    inr (subst (λ (k : ℕ). IsTrue (bit_on c.alike-alike.result k)) same
    c.alike-alike.ensures.itself))
    (cases_lt next lane)) in
    let e : true ≡ false = sym on ∙ off in
    absurd (cc))
    (cases_lt lane next)

pub returns-clause-keeps : goal.returns-clause-keeps
returns-clause-keeps g c = λ lane u inside is.
    let lanes : c.LANES-lanes.result ≡ g.V.Signal.signal.lanes = c.LANES-lanes.ensures
    ∙ sym g.met.V.Signal.lanes_are in
    let over : c.LANES-lanes.result ≤ c.next_span.lane = c.next_span-test.false in
    let some : 1 ≤ c.next_span.lane = omega (arith, inside, lanes, over) in
    let few : g.V.Signal.signal.lanes ≤ 64 = c.next_span.invariant.few some in
    let low : lane < 64 = omega (arith, inside, few) in
    c.next_span.invariant.keeps lane inside low
    (c.next_span.invariant.passed lane low (omega (arith, inside, lanes, over))) u is

pub least-least-requires : goal.least-least-requires
least-least-requires g c =
    subst (λ k. c.next_span.lane < k) (c.LANES-lanes.ensures ∙ sym g.met.V.Signal.lanes_are)
    c.next_span-test.true

pub greatest-greatest-requires : goal.greatest-greatest-requires
greatest-greatest-requires g c =
    subst (λ k. c.next_span.lane < k) (c.LANES-lanes.ensures ∙ sym g.met.V.Signal.lanes_are)
    c.next_span-test.true

pub alike-alike-requires : goal.alike-alike-requires
alike-alike-requires g c =
    subst (λ k. c.next_span.lane < k) (c.LANES-lanes.ensures ∙ sym g.met.V.Signal.lanes_are)
    c.next_span-test.true

pub sooner-first-requires-clause-later : goal.sooner-first-requires-clause-later
sooner-first-requires-clause-later g c =
    let inside : c.next_span.lane < g.V.Signal.signal.lanes =
    subst (λ k. c.next_span.lane < k) (c.LANES-lanes.ensures ∙ sym g.met.V.Signal.lanes_are)
    c.next_span-test.true in
    subst (λ (k : ℕ). 1 ≤ k) (sym c.least-least.ensures.least)
    (c.requires.later c.next_span.lane inside)

pub sooner-stays-requires-clause-later : goal.sooner-stays-requires-clause-later
sooner-stays-requires-clause-later g c =
    let inside : c.next_span.lane < g.V.Signal.signal.lanes =
    subst (λ k. c.next_span.lane < k) (c.LANES-lanes.ensures ∙ sym g.met.V.Signal.lanes_are)
    c.next_span-test.true in
    let some : 1 ≤ (g.V.Signal.signal.ends c.args.delay.now c.next_span.lane).least =
    c.requires.later c.next_span.lane inside in
    let order = (c.least-least.ensures.in_order c.next_span.lane inside).ordered in
    omega (arith, some, order, c.greatest-greatest.ensures.greatest)

pub sooner-first-requires-clause-known : goal.sooner-first-requires-clause-known
sooner-first-requires-clause-known g c = c.requires.known

pub sooner-first-requires-clause-early : goal.sooner-first-requires-clause-early
sooner-first-requires-clause-early g c = c.requires.early

pub sooner-stays-requires-clause-known : goal.sooner-stays-requires-clause-known
sooner-stays-requires-clause-known g c = c.requires.known

pub sooner-stays-requires-clause-early : goal.sooner-stays-requires-clause-early
sooner-stays-requires-clause-early g c = c.requires.early

pub sooner-first-requires-clause-some : goal.sooner-first-requires-clause-some
sooner-first-requires-clause-some g c = c.next_span.invariant.some

pub sooner-stays-requires-clause-some : goal.sooner-stays-requires-clause-some
sooner-stays-requires-clause-some g c = c.sooner-first.ensures.some

pub returns-clause-some : goal.returns-clause-some
returns-clause-some g c = c.next_span.invariant.some

pub returns-clause-limited : goal.returns-clause-limited
returns-clause-limited g c = c.next_span.invariant.limited
