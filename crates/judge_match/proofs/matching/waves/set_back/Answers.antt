use Rattle.std.proofs.Common.{◌≤◌, arith, ⊎_elim}
use Rattle.std.proofs.lemmas.Bool.{cases_lt}
use Rattle.std.specs.Prelude.{min}
use Rattle.judge_match.proofs.matching.waves.set_back.Goals as goal

pub returns-clause-set : goal.returns-clause-set
returns-clause-set c =
    let now = c.loop-t.invariant.set in
    let low : min c.args.from c.args.end ≤ c.loop-t.t = c.loop-t.invariant.low in
    let passed : c.loop-t.t ≤ c.args.from = c.loop-t-test.false in
    record {
      within = λ k le lt. now.within k (omega arith) lt;
      below = λ k lt.
          ⊎_elim (λ early. now.below k early) (λ late. now.above k (omega arith))
          (cases_lt k c.loop-t.t);
      above = λ k le. now.above k le;
    }
