use Rattle.cert_claims.specs.text.Grammar.{script_parts, head_text, end_text}
use Rattle.cert_claims.proofs.{text_lemmas.FewLines.leaves_early, text_lemmas.StandsLaws.stands_once}
use Rattle.base_text.specs.lines.WholeLaws.{leaves_at_one_line, is_no_text}
use Rattle.cert_claims.proofs.text.laws.a_text_leaves_at_one_line.Goals as goal

pub returns-clause-one : goal.returns-clause-one
returns-clause-one c = λ line scripts bytes n m is other.
    leaves_at_one_line (script_parts line) head_text scripts end_text
    (stands_once c.texts_tell_waves.ensures line) bytes n m is other

pub returns-clause-refused : goal.returns-clause-refused
returns-clause-refused c = λ line scripts claims bytes n is other.
    is_no_text (script_parts line) head_text scripts end_text
    (stands_once c.texts_tell_waves.ensures line) claims bytes n is other

pub returns-clause-early : goal.returns-clause-early
returns-clause-early c = λ line scripts bytes n is. leaves_early line scripts bytes n is
