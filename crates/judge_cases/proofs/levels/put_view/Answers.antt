use Rattle.std.proofs.Common.{◌≡◌, ◌<◌, ◌+◌, ◌-◌, ◌∷◌, ℕ, suc, List, length, drop, sym, ◌∙◌, ap}
use Rattle.std.proofs.Common.{arith, subst}
use Rattle.std.specs.Prelude.{get_or}
use Rattle.model_settle.specs.Assumed.{Assumption, assumed_level}
use Rattle.judge_cases.specs.{Puts.PutIn, Views.view_box}
use Rattle.judge_cases.proofs.BelowLaws.{drop_at}
use Rattle.judge_cases.proofs.levels.put_view.Goals as goal

pub loop-back-preserved : goal.loop-back-preserved
loop-back-preserved c =
    let line = c.args.compiled.now.line.now in
    let all : List Assumption = c.deref-assumed.result.now in
    let back = c.loop-back.back in
    let a = c.index-assumed-assumed.result in
    let i : ℕ = length all - 1 - back in
    let inside : back < length all = c.loop-back-test.true in
    let step : a ∷ drop (length all - back) all ≡ drop (length all - (back + 1)) all =
    ap (λ (x : Assumption). x ∷ drop (length all - back) all) c.index-assumed-assumed.is
    ∙ ap (λ (n : ℕ). get_or all i a ∷ drop n all)
    (let e : length all - back ≡ suc i = omega arith in e)
    ∙ sym (drop_at all i a (omega arith))
    ∙ ap (λ (n : ℕ). drop n all) (let e : i ≡ length all - (back + 1) = omega arith in e) in
    record {
      count = c.put_one.ensures.count;
      lane = λ start.
          subst (λ (l : List Assumption). PutIn line c.args.compiled.now.net.now c.args.rows.now
          c.put_one.new.masks.items c.args.lane
          (assumed_level line (view_box line c.args.view.now) l)) step
          (c.put_one.ensures.lane (drop (length all - back) all)
          (c.loop-back.invariant.lane start));
      others = λ k level low ne start.
          c.put_one.ensures.others k level low ne
          (c.loop-back.invariant.others k level low ne start);
    }
