use Rattle.cert_claims.specs.{check.Counts.all_verdicts, check.ScriptLaws.refuses}
use Rattle.cert_claims.proofs.check_lemmas.OneCheckFault.{of_text_or_script}
use Rattle.cert_claims.proofs.check.laws.a_fault_refuses_the_certificate.Goals as goal

pub returns : goal.returns
returns c = λ line scripts bytes counts fault h.
    let law = c.texts_and_claims_are_told_apart.ensures in
    refuses _ _ _ _ scripts _ _ (law.texts line scripts bytes) (law.claims line) all_verdicts
    counts fault (of_text_or_script line scripts bytes fault h)
