use Rattle.std.proofs.Common.{◌≤◌, ◌<◌, ℕ, List, length, map, take, sym, ◌∙◌, ap, arith, subst}
use Rattle.std.proofs.lemmas.List.{take_all, length-map}
use Rattle.cert_claims.specs.text.Grammar.{Verdict, verdict_in, claims_in}
use Rattle.cert_claims.specs.{declared.text.claim.Claim.Claim, declared.text.claim.ScriptClaims.ScriptClaims}
use Rattle.cert_claims.specs.check.Counts.{Adds, AreCounts, all_verdicts, is_yes, is_no, is_undecided}
use Rattle.cert_claims.specs.check.CountLaws.{counts_then, adds_few}
use Rattle.cert_claims.proofs.check_lemmas.FirstVerdicts.{first_scripts, few_verdicts}
use Rattle.cert_claims.proofs.check.counts.counts_of.Goals as goal

pub with_all-sum-requires-clause-few : goal.with_all-sum-requires-clause-few
with_all-sum-requires-clause-few c =
    let inside : c.loop-i.i < length c.args.claims.now = omega (arith, c.loop-i-test.true) in
    rw (c.as_slice.ensures.value, sym c.index-claims-i.is) (few_verdicts c.args.claims.now c.loop-i.i c.index-claims-i.result
    inside c.index-claims-i.is c.requires.each)

pub loop-i-preserved : goal.loop-i-preserved
loop-i-preserved c =
    let claims : List ScriptClaims = c.args.claims.now in
    let i : ℕ = c.loop-i.i in
    let item : ScriptClaims = c.index-claims-i.result in
    let before = c.loop-i.invariant in
    let next = c.with_all-sum.result in
    let inside : i < length claims = omega (arith, c.loop-i-test.true) in
    let said : List Verdict = map verdict_in item.verdicts.items in
    let few : length item.verdicts.items ≤ 3 =
    few_verdicts claims i item inside c.index-claims-i.is c.requires.each in
    let short : length said ≤ 3 =
    omega (arith, few, length-map item.verdicts.items (λ x. verdict_in x)) in
    let Q : List Claim → Type 0 = λ l. Adds c.loop-i.sum (map verdict_in l) next in
    let added : Adds c.loop-i.sum said next =
    subst Q (c.as_slice.ensures.value ∙ ap (λ (s : ScriptClaims). s.verdicts.items)
    (sym c.index-claims-i.is)) c.with_all-sum.ensures in
    let P : List Verdict → Type 0 = λ l. AreCounts l next in
    record {
      counts = subst P (first_scripts claims i item inside c.index-claims-i.is)
          (counts_then c.loop-i.sum next (all_verdicts (map claims_in (take i claims))) said
          before.counts added);
      yes = omega (arith, before.yes, adds_few is_yes said c.loop-i.sum.yes next.yes 3 added.yes short);
      no = omega (arith, before.no, adds_few is_no said c.loop-i.sum.no next.no 3 added.no short);
      undecided = omega (
        arith,
        before.undecided,
        adds_few is_undecided said c.loop-i.sum.undecided next.undecided 3 added.undecided short,
      );
    }

pub returns : goal.returns
returns c =
    let claims : List ScriptClaims = c.args.claims.now in
    let P : List ScriptClaims → Type 0 = λ l. AreCounts (all_verdicts (map claims_in l)) c.loop-i.sum in
    subst P (take_all c.loop-i.i claims (omega (arith, c.loop-i-test.false))) c.loop-i.invariant.counts
