use Rattle.std.proofs.Common.{◌≡◌, ◌<◌, ◌≤◌, ◌-◌, ℕ, length, sym, ap, subst, arith, ⊎_elim}
use Rattle.std.proofs.lemmas.Bool.{cases_lt}
use Rattle.model_timing.specs.Timing.{TimingValues}
use Rattle.judge_settle.specs.corner.Cuts.{without_step}
use Rattle.judge_settle.specs.corner.Obligations.{IsPassed}
use Rattle.judge_settle.proofs.corner_lemmas.Tries.{round_none, round_after, step_left, neither_one, length_after}
use Rattle.judge_settle.proofs.corner.step.leave_steps.Goals as goal

pub steps-init : goal.steps-init
steps-init c =
    let same : length c.steps-j.result.now ≡ length c.args.cut.now.steps =
    ap length c.steps-j.ensures.same in
    record {
      within = omega (arith, same);
      round = round_none c.args.of.now c.args.cut.now c.requires.fails;
      matter = λ off. λ j from lt. absurd (omega (arith, same, from, lt));
    }

pub steps-preserved : goal.steps-preserved
steps-preserved c =
    let of = c.args.of.now in
    let old = c.args.cut.now in
    let cut : TimingValues = c.steps.cut in
    let new : TimingValues = c.leave_step.new.cut in
    let j : ℕ = c.steps.j - 1 in
    let some = c.steps-test.true in
    let there : j < length cut.steps = omega (arith, c.steps.invariant.within, some) in
    let one = c.in_ok-one.one in
    let tried = c.in_ok-one.ensures in
    let is = c.either-left.ensures in
    record {
      within = length_after of cut new j one there tried;
      round = round_after of old cut new c.steps.left one c.either-left.result
          c.steps.invariant.round
          (step_left of cut new j one there c.steps.invariant.round.fails tried) is;
      matter = λ off.
          let both = neither_one c.steps.left one c.either-left.result is off in
          let kept : new ≡ cut = tried.kept both.1 in
          subst (λ (t : TimingValues). (i : ℕ) → j ≤ i → i < length t.steps
          → IsPassed of (without_step t i)) (sym kept)
          (λ i from lt. ⊎_elim
          (λ (behind : j < i). c.steps.invariant.matter both.0 i (omega (arith, behind)) lt)
          (λ (upto : i ≤ j).
          let at : i ≡ j = omega (arith, upto, from) in
          subst (λ (n : ℕ). IsPassed of (without_step cut n)) (sym at) (tried.passes both.1))
          (cases_lt j i));
    }

pub returns-clause-matter : goal.returns-clause-matter
returns-clause-matter c = λ off. λ j from lt.
    let done = c.steps-test.false in
    c.steps.invariant.matter off j (omega (arith, done, from)) lt
