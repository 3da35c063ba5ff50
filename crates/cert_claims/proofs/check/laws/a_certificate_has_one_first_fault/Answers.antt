use Rattle.cert_claims.specs.check.ScriptLaws.{one_fault}
use Rattle.cert_claims.proofs.check_lemmas.OneCheckFault.{of_text_or_script}
use Rattle.cert_claims.proofs.check.laws.a_certificate_has_one_first_fault.Goals as goal

pub returns : goal.returns
returns c = λ line scripts bytes fault other h k.
    let law = c.texts_and_claims_are_told_apart.ensures in
    one_fault _ _ _ _ scripts _ _ (law.texts line scripts bytes) (law.claims line) fault other
    (of_text_or_script line scripts bytes fault h) (of_text_or_script line scripts bytes other k)
