use Rattle.cert_claims.specs.text.Grammar.{script_parts, head_text, end_text}
use Rattle.cert_claims.proofs.text_lemmas.StandsLaws.{stands_as}
use Rattle.base_text.specs.lines.WholeLaws.{same_bytes}
use Rattle.cert_claims.proofs.text.laws.claims_have_one_text.Goals as goal

pub returns : goal.returns
returns c = λ line scripts claims bytes others is other.
    same_bytes (script_parts line) head_text scripts end_text (stands_as line) claims bytes others is
    other
