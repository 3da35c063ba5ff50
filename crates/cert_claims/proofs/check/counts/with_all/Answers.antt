use Rattle.std.proofs.Common.{◌≤◌, ◌<◌, ◌∷◌, [], ℕ, List, length, map, take, arith, subst}
use Rattle.std.proofs.lemmas.List.{take_all}
use Rattle.cert_claims.specs.{declared.text.claim.Claim.Claim, text.Grammar.Verdict, text.Grammar.verdict_in}
use Rattle.cert_claims.specs.check.Counts.{Adds, is_yes, is_no, is_undecided}
use Rattle.cert_claims.specs.check.CountLaws.{adds_then, adds_few}
use Rattle.cert_claims.proofs.check_lemmas.FirstVerdicts.{first_verdicts, few_first}
use Rattle.cert_claims.proofs.check.counts.with_all.Goals as goal

pub with_one-sum-requires : goal.with_one-sum-requires
with_one-sum-requires c =
    let written : List Claim = c.args.verdicts.now in
    let said : List Verdict = map verdict_in (take c.loop-i.i written) in
    let few : length said ≤ 3 = few_first written c.loop-i.i c.loop-i.auto.i-end c.requires.few in (
      omega (
        arith,
        c.requires.small.0,
        adds_few is_yes said c.args.counts.yes c.loop-i.sum.yes 3 c.loop-i.invariant.yes few,
      ),
      omega (
        arith,
        c.requires.small.1,
        adds_few is_no said c.args.counts.no c.loop-i.sum.no 3 c.loop-i.invariant.no few,
      ),
      omega (
        arith,
        c.requires.small.2,
        adds_few is_undecided said c.args.counts.undecided c.loop-i.sum.undecided 3 c.loop-i.invariant.undecided few,
      ),
    )

pub loop-i-preserved : goal.loop-i-preserved
loop-i-preserved c =
    let written : List Claim = c.args.verdicts.now in
    let i : ℕ = c.loop-i.i in
    let item : Claim = c.index-verdicts-i.result in
    let inside : i < length written = omega (arith, c.loop-i-test.true) in
    let P : List Verdict → Type 0 = λ said. Adds c.args.counts said c.with_one-sum.result in
    subst P (first_verdicts written i item inside c.index-verdicts-i.is)
    (adds_then c.args.counts c.loop-i.sum c.with_one-sum.result (map verdict_in (take i written))
    (verdict_in item ∷ []) c.loop-i.invariant c.with_one-sum.ensures)

pub returns : goal.returns
returns c =
    let written : List Claim = c.args.verdicts.now in
    let P : List Claim → Type 0 = λ l. Adds c.args.counts (map verdict_in l) c.loop-i.sum in
    subst P (take_all c.loop-i.i written (omega (arith, c.loop-i-test.false))) c.loop-i.invariant
