use Rattle.std.proofs.Common.{◌≡◌, ℕ, subst, arith, ⊎_elim}
use Rattle.std.proofs.lemmas.Bool.{cases_lt}
use Rattle.judge_match.specs.matching.Clash.{IsTerminalAllowed}
use Rattle.judge_match.proofs.matching_lemmas.ClashLaws.{first_of_all}
use Rattle.judge_match.proofs.matching.clash.first_clash.Goals as goal

pub returns-in-Some : goal.returns-in-Some
returns-in-Some c = λ script derived.
    let told = c.in-Some.ensures script derived in
    first_of_all c.args.compiled.now.line.now script c.args.seen.now c.loop-k.k c.in-Some.clash
    (omega arith) (c.loop-k.invariant script derived) told.0 told.1

pub loop-k-preserved : goal.loop-k-preserved
loop-k-preserved c = λ script derived k lt.
    ⊎_elim (λ earlier. c.loop-k.invariant script derived k earlier)
    (λ last.
    let e : c.loop-k.k ≡ k = omega arith in
    subst (λ (j : ℕ). IsTerminalAllowed c.args.compiled.now.line.now script c.args.seen.now j) e
    (c.in_default.ensures script derived))
    (cases_lt k c.loop-k.k)

pub returns : goal.returns
returns c = λ script derived. record {
  each = λ k kn.
      let done = c.loop-k-test.false in
      c.loop-k.invariant script derived k (omega arith);
}
