use Rattle.cert_claims.specs.text.Grammar.{IsCertificate}
use Rattle.cert_claims.specs.check.Check.{IsAccepted, IsCheckFault}
use Rattle.cert_claims.specs.{check.Counts.all_verdicts, check.Verdicts.AreAccepted}
use Rattle.call_pilot.specs.commands.Check.{rejected_pieces}
use Rattle.call_pilot.proofs.once_lemmas.EachCheck.{each_check}
use Rattle.call_pilot.proofs.once_lemmas.OneAnswer.{checked_once, good_once}
use Rattle.call_pilot.proofs.once.one_answer.each_check_has_one_answer.Goals as goal

pub returns : goal.returns
returns c = record {
  exists = λ line scripts cert fit.
      each_check c.line_laws.ensures c.timings_inside_are_choices_inside.ensures
      c.certificates_can_be_written.ensures line scripts fit cert;
  only = λ line scripts cert.
      checked_once (IsAccepted line scripts cert) (IsCheckFault line scripts cert)
      (rejected_pieces line scripts)
      (good_once (λ claims. IsCertificate line scripts claims cert) (AreAccepted line) all_verdicts
      scripts (λ p q. c.a_text_has_one_meaning.ensures line scripts p q cert))
      (λ counts why first.
      c.a_fault_refuses_the_certificate.ensures line scripts cert counts why first)
      (λ f g. c.a_certificate_has_one_first_fault.ensures line scripts cert f g);
}
