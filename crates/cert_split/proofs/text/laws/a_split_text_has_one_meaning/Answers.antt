use Rattle.std.proofs.Common.{sym, ◌∙◌}
use Rattle.base_text.specs.lines.WholeLaws.{one_meaning}
use Rattle.cert_claims.specs.text.Grammar.{end_text}
use Rattle.cert_split.specs.text.Grammar.{script_parts, head_text}
use Rattle.cert_split.proofs.{text_lemmas.SaidLaws.said_tells, text_lemmas.StandsLaws.stands_once}
use Rattle.cert_split.proofs.text.laws.a_split_text_has_one_meaning.Goals as goal

pub returns : goal.returns
returns c = λ line scripts parts others bytes is other.
    said_tells line parts others (is.many ∙ sym other.many) is.each other.each
    (one_meaning (script_parts line) head_text scripts end_text
    (stands_once c.laws_below.ensures line) parts others bytes is other)
