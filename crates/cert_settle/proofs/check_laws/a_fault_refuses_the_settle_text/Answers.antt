use Rattle.cert_claims.specs.check.ScriptLaws.{refuses}
use Rattle.cert_settle.specs.Counts.{all_verdicts}
use Rattle.cert_settle.proofs.OneSettleFault.{of_text_or_script}
use Rattle.cert_settle.proofs.check_laws.a_fault_refuses_the_settle_text.Goals as goal

pub returns : goal.returns
returns c = λ line scripts bytes counts fault h.
    let law = c.texts_and_results_are_told_apart.ensures in
    refuses _ _ _ _ scripts _ _ (law.texts line scripts bytes) (law.results line) all_verdicts
    counts fault (of_text_or_script line scripts bytes fault h)
