use Rattle.std.proofs.Common.{◌≡◌, ◌<◌, ◌≤◌, ℕ, sym, subst, arith, ⊎_elim}
use Rattle.std.proofs.lemmas.Bool.{cases_lt}
use Rattle.model_timing.specs.Timing.{TimingValues}
use Rattle.judge_settle.specs.corner.Obligations.{MattersIn}
use Rattle.judge_settle.proofs.corner_lemmas.Tries.{round_none, round_after, neither_one}
use Rattle.judge_settle.proofs.corner.number.put_numbers.Goals as goal

pub loop-param-init : goal.loop-param-init
loop-param-init c = record {
  round = round_none c.args.of.now c.args.cut.now c.requires.fails;
  matter = λ off. λ i lt. absurd (omega (arith, lt));
}

pub loop-param-preserved : goal.loop-param-preserved
loop-param-preserved c =
    let of = c.args.of.now in
    let cut : TimingValues = c.loop-param.cut in
    let new : TimingValues = c.put_number.new.cut in
    let p : ℕ = c.loop-param.param in
    let put = c.in_ok-put.put in
    let is = c.either-moved.ensures in
    record {
      round = round_after of c.args.cut.now cut new c.loop-param.moved put c.either-moved.result
          c.loop-param.invariant.round c.in_ok-put.ensures.round is;
      matter = λ off.
          let both = neither_one c.loop-param.moved put c.either-moved.result is off in
          let kept : new ≡ cut = c.in_ok-put.ensures.round.same both.1 in
          λ i lt. ⊎_elim
          (λ (before : i < p).
          subst (λ (t : TimingValues). MattersIn of t i) (sym kept)
          (c.loop-param.invariant.matter both.0 i before))
          (λ (from : p ≤ i).
          let at : i ≡ p = omega (arith, from, lt) in
          subst (MattersIn of new) (sym at) (c.in_ok-put.ensures.matters both.1))
          (cases_lt i p);
    }
