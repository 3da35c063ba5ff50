use Rattle.std.proofs.Common.{◌≡◌, ℕ, ◌<◌, ◌≤◌, ◌-◌, length, arith, subst, ⊎_elim, refl, ◌∙◌}
use Rattle.std.proofs.lemmas.Bool.{cases_lt}
use Rattle.std.proofs.lemmas.Option.{slice_get_within}
use Rattle.run_changes.specs.changes.Lags.{AreAtGate, IsTraced}
use Rattle.run_changes.proofs.changes_lemmas.TraceLaws.{lowered_lasts}
use Rattle.run_changes.proofs.changes.trace.trace_all.Goals as goal

pub loop-i-init : goal.loop-i-init
loop-i-init g c = record {
  inside = omega arith;
  at_gate = c.requires.gates;
  next = c.requires.next;
  horizon = refl;
  traced = λ lane p inside given before. before;
  lasts = λ p ready lane i gate due inside lt. absurd (omega arith);
}

pub loop-i-preserved : goal.loop-i-preserved
loop-i-preserved g c =
    let t = c.args.moment.now.t in
    let i = c.loop-i.i in
    let inv = c.loop-i.invariant in
    record {
      inside = c.take_next-i.ensures.inside;
      at_gate = c.take_next-i.ensures.gates;
      next = c.take_next-i.ensures.next;
      horizon = c.take_next-i.ensures.horizon ∙ inv.horizon;
      traced = λ lane p il given before.
          c.take_next-i.ensures.takes lane p il given (inv.traced lane p il given before);
      lasts = λ p all lane k h d il lt ha dat.
          ⊎_elim
          (λ low. ⊎_elim
          (λ none. lowered_lasts (p lane) (t - 1) t d h none)
          (λ same. inv.lasts p all lane k h d il low ha same)
          (c.take_next-i.ensures.others k d low dat))
          (λ ge. c.take_next-i.ensures.lasts p
          (λ l ll. let q = all l ll in (q.0, inv.traced l (p l) ll q.0 q.1))
          lane k h d il ge lt ha dat)
          (cases_lt k i);
    }

pub returns-clause-gates : goal.returns-clause-gates
returns-clause-gates g c =
    let len : c.len.result ≡ length c.args.net.now.gates = c.len.ensures.len in
    let over : c.len.result ≤ c.loop-i.i = c.loop-i-test.false in
    let under : c.loop-i.i ≤ length c.args.net.now.gates = c.loop-i.invariant.inside in
    let last : c.loop-i.i ≡ length c.args.net.now.gates = omega (arith, len, over, under) in
    subst (λ (n : ℕ). AreAtGate c.args.net.now c.args.moment.now.t n c.loop-i.gates) last
    c.loop-i.invariant.at_gate

pub returns-clause-takes : goal.returns-clause-takes
returns-clause-takes g c = λ lane p inside given before.
    let len : c.len.result ≡ length c.args.net.now.gates = c.len.ensures.len in
    let over : c.len.result ≤ c.loop-i.i = c.loop-i-test.false in
    let under : c.loop-i.i ≤ length c.args.net.now.gates = c.loop-i.invariant.inside in
    let last : c.loop-i.i ≡ length c.args.net.now.gates = omega (arith, len, over, under) in
    subst (λ (n : ℕ). IsTraced g.V.Signal.signal g.V.Timed.stands_for lane p
    c.args.moment.now.t n c.args.net.now.gates c.loop-i.gates) last
    (c.loop-i.invariant.traced lane p inside given before)

pub returns-clause-lasts : goal.returns-clause-lasts
returns-clause-lasts g c = λ p all lane k h due inside ha da.
    let within : k < length c.args.net.now.gates =
    slice_get_within c.args.net.now.gates k h ha in
    let len : c.len.result ≡ length c.args.net.now.gates = c.len.ensures.len in
    let over : c.len.result ≤ c.loop-i.i = c.loop-i-test.false in
    c.loop-i.invariant.lasts p all lane k h due inside (omega (arith, within, len, over)) ha da
