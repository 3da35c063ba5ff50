use Rattle.call_pilot.proofs.commands_lemmas.Parts.{certificate_exists, certificate_once}
use Rattle.call_pilot.proofs.commands.laws.each_certificate_has_one_text.Goals as goal

pub returns : goal.returns
returns c = record {
  exists = λ line scripts fits.
      certificate_exists line scripts
      (c.each_script_has_one_certificate.ensures.exists line scripts fits);
  only = λ line scripts s t a b fits.
      certificate_once line scripts s t a b
      (λ p q. c.each_script_has_one_certificate.ensures.only line scripts p q fits);
}
