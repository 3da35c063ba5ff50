use Rattle.std.proofs.Common.{◌<◌, List, length, map, ◌∙◌, ap, arith}
use Rattle.std.proofs.lemmas.List.{take_all}
use Rattle.cert_claims.specs.{declared.text.claim.Claim.Claim, text.Grammar.verdict_in}
use Rattle.judge_verdict.specs.declared.verdict.verdict.Verdict.{Verdict}
use Rattle.cert_own.specs.Piece.{written_as}
use Rattle.cert_own.proofs.ListLaws.{one_mapped_more}
use Rattle.cert_own.proofs.piece.claims_of.Goals as goal

pub loop-i-init : goal.loop-i-init
loop-i-init c = ap (λ (l : List Claim). map verdict_in l) c.new-claims.ensures.items

pub loop-i-preserved : goal.loop-i-preserved
loop-i-preserved c =
    let verdicts : List Verdict = c.args.verdicts.now in
    let inside : c.loop-i.i < length verdicts = omega (arith, c.loop-i-test.true) in
    ap (λ (l : List Claim). map verdict_in l) c.in_ok-push.ensures.items
    ∙ one_mapped_more (λ x. verdict_in x) (λ x. written_as x) c.loop-i.claims.items verdicts
    c.loop-i.i c.in_ok-claim.claim c.index-verdicts-i.result inside c.index-verdicts-i.is
    c.loop-i.invariant c.in_ok-claim.ensures

pub returns : goal.returns
returns c =
    let verdicts : List Verdict = c.args.verdicts.now in
    c.loop-i.invariant
    ∙ ap (λ (l : List Verdict). map written_as l)
    (take_all c.loop-i.i verdicts (omega (arith, c.loop-i-test.false)))
