use Rattle.std.proofs.Common.{◌≤◌, ◌<◌, ℕ, List, length, map, take, arith, subst, Vec}
use Rattle.std.proofs.lemmas.List.{take_all, length-map}
use Rattle.std.specs.declared.alloc.Global.{Global}
use Rattle.cert_claims.specs.text.Grammar.{Verdict}
use Rattle.cert_claims.specs.check.Counts.{Adds, AreCounts, is_yes, is_no, is_undecided}
use Rattle.cert_split.specs.declared.text.claim.SplitClaim.{SplitClaim}
use Rattle.cert_split.specs.{text.Grammar.SplitResult, text.Reading.result_in, text.Reading.results_in}
use Rattle.cert_split.specs.check.Counts.{all_verdicts, CountResults}
use Rattle.cert_claims.specs.check.ScriptLaws.{each_mapped}
use Rattle.cert_claims.specs.check.CountLaws.{counts_then, adds_few}
use Rattle.cert_split.proofs.check_lemmas.FirstVerdicts.{verdicts_in, parts_more, few_verdicts}
use Rattle.cert_split.proofs.check.counts.counts_of.Goals as goal

-- what is said of one of the scripts has few results
few_claims : (item : Vec SplitClaim Global) → length (results_in item) ≤ 3
    → length item.items ≤ 3
few_claims item few = omega (arith, few, length-map item.items result_in)

pub with_all-sum-requires-clause-few : goal.with_all-sum-requires-clause-few
with_all-sum-requires-clause-few c =
    let parts : List (Vec SplitClaim Global) = c.args.parts.now in
    let i : ℕ = c.loop-i.i in
    let item : Vec SplitClaim Global = c.index-parts-i.result in
    let inside : i < length parts = omega (arith, c.loop-i-test.true) in
    rw c.as_slice.ensures.value (few_claims item
    (each_mapped results_in parts i item inside c.index-parts-i.is
    (λ (l : List SplitResult). length l ≤ 3) c.requires.each))

pub loop-i-preserved : goal.loop-i-preserved
loop-i-preserved c =
    let parts : List (Vec SplitClaim Global) = c.args.parts.now in
    let i : ℕ = c.loop-i.i in
    let item : Vec SplitClaim Global = c.index-parts-i.result in
    let before = c.loop-i.invariant in
    let sum = c.loop-i.sum in
    let next = c.with_all-sum.result in
    let inside : i < length parts = omega (arith, c.loop-i-test.true) in
    let said : List Verdict = verdicts_in item.items in
    let short : length said ≤ 3 =
    few_verdicts item.items (few_claims item
    (each_mapped results_in parts i item inside c.index-parts-i.is
    (λ (l : List SplitResult). length l ≤ 3) c.requires.each)) in
    let added : Adds sum said next =
    subst (λ (l : List SplitClaim). Adds sum (verdicts_in l) next)
    c.as_slice.ensures.value c.with_all-sum.ensures in
    record {
      counts = subst (λ (l : List Verdict). AreCounts l next)
          (parts_more parts i item inside c.index-parts-i.is)
          (counts_then sum next (all_verdicts (map results_in (take i parts))) said before.counts
          added);
      yes = omega (arith, before.yes, adds_few is_yes said sum.yes next.yes 3 added.yes short);
      no = omega (arith, before.no, adds_few is_no said sum.no next.no 3 added.no short);
      undecided = omega (
        arith,
        before.undecided,
        adds_few is_undecided said sum.undecided next.undecided 3 added.undecided short,
      );
    }

pub returns : goal.returns
returns c =
    let parts : List (Vec SplitClaim Global) = c.args.parts.now in
    subst (λ (l : List (Vec SplitClaim Global)). CountResults (map results_in l) c.loop-i.sum)
    (take_all c.loop-i.i parts (omega (arith, c.loop-i-test.false))) c.loop-i.invariant.counts
