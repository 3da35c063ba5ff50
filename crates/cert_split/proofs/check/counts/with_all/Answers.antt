use Rattle.std.proofs.Common.{◌≤◌, ◌<◌, ◌∷◌, [], ℕ, List, length, take, arith, subst}
use Rattle.std.proofs.lemmas.List.{take_all}
use Rattle.cert_claims.specs.text.Grammar.{Verdict}
use Rattle.cert_claims.specs.check.Counts.{Adds, is_yes, is_no, is_undecided}
use Rattle.cert_split.specs.{declared.text.claim.SplitClaim.SplitClaim, text.Reading.result_in}
use Rattle.cert_split.specs.check.Counts.{verdict_of}
use Rattle.cert_claims.specs.check.CountLaws.{adds_then, adds_few}
use Rattle.cert_split.proofs.check_lemmas.FirstVerdicts.{verdicts_in, claims_more, few_first}
use Rattle.cert_split.proofs.check.counts.with_all.Goals as goal

pub with_one-sum-requires : goal.with_one-sum-requires
with_one-sum-requires c =
    let claims : List SplitClaim = c.args.results.now in
    let said : List Verdict = verdicts_in (take c.loop-i.i claims) in
    let few : length said ≤ 3 = few_first claims c.loop-i.i c.loop-i.auto.i-end c.requires.few in
    let grown = c.loop-i.invariant in
    let old = c.args.counts in
    let sum = c.loop-i.sum in (
      omega (arith, c.requires.small.0, adds_few is_yes said old.yes sum.yes 3 grown.yes few),
      omega (arith, c.requires.small.1, adds_few is_no said old.no sum.no 3 grown.no few),
      omega (
        arith,
        c.requires.small.2,
        adds_few is_undecided said old.undecided sum.undecided 3 grown.undecided few,
      ),
    )

pub loop-i-preserved : goal.loop-i-preserved
loop-i-preserved c =
    let claims : List SplitClaim = c.args.results.now in
    let i : ℕ = c.loop-i.i in
    let item : SplitClaim = c.index-results-i.result in
    let inside : i < length claims = omega (arith, c.loop-i-test.true) in
    subst (λ (said : List Verdict). Adds c.args.counts said c.with_one-sum.result)
    (claims_more claims i item inside c.index-results-i.is)
    (adds_then c.args.counts c.loop-i.sum c.with_one-sum.result (verdicts_in (take i claims))
    (verdict_of (result_in item) ∷ []) c.loop-i.invariant c.with_one-sum.ensures)

pub returns : goal.returns
returns c =
    let claims : List SplitClaim = c.args.results.now in
    subst (λ (l : List SplitClaim). Adds c.args.counts (verdicts_in l) c.loop-i.sum)
    (take_all c.loop-i.i claims (omega (arith, c.loop-i-test.false))) c.loop-i.invariant
