use Rattle.cert_claims.proofs.text_lemmas.PartLaws.{certificate_parts}
use Rattle.cert_claims.proofs.text.ends.a_certificate_is_its_parts.Goals as goal

pub returns-clause-parts : goal.returns-clause-parts
returns-clause-parts c = λ line scripts claims long each.
    certificate_parts line scripts claims long each
