use Rattle.cert_claims.specs.check.ScriptLaws.{one_fault}
use Rattle.cert_settle.proofs.OneSettleFault.{of_text_or_script}
use Rattle.cert_settle.proofs.check_laws.a_settle_text_has_one_first_fault.Goals as goal

pub returns : goal.returns
returns c = λ line scripts bytes fault other h k.
    let law = c.texts_and_results_are_told_apart.ensures in
    one_fault _ _ _ _ scripts _ _ (law.texts line scripts bytes) (law.results line) fault other
    (of_text_or_script line scripts bytes fault h) (of_text_or_script line scripts bytes other k)
