use Rattle.std.proofs.Common.{sym, ◌∙◌}
use Rattle.cert_claims.specs.text.Grammar.{script_parts, head_text, end_text}
use Rattle.cert_claims.proofs.{text_lemmas.ClaimLaws.parts_tell, text_lemmas.StandsLaws.stands_once}
use Rattle.base_text.specs.lines.WholeLaws.{one_meaning}
use Rattle.cert_claims.proofs.text.laws.a_text_has_one_meaning.Goals as goal

pub returns : goal.returns
returns c = λ line scripts claims others bytes is other.
    parts_tell line claims others (is.many ∙ sym other.many) is.each other.each
    (one_meaning (script_parts line) head_text scripts end_text
    (stands_once c.texts_tell_waves.ensures line) claims others bytes is other)
