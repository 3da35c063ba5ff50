use Rattle.base_text.specs.lines.WholeLaws.{leaves_at_one_line, is_no_text}
use Rattle.cert_claims.specs.text.Grammar.{end_text}
use Rattle.cert_split.specs.text.Grammar.{script_parts, head_text}
use Rattle.cert_split.proofs.{text_lemmas.FewLines.leaves_early, text_lemmas.StandsLaws.stands_once}
use Rattle.cert_split.proofs.text.laws.a_split_text_leaves_at_one_line.Goals as goal

pub returns-clause-one : goal.returns-clause-one
returns-clause-one c = λ line scripts bytes n m is other.
    leaves_at_one_line (script_parts line) head_text scripts end_text
    (stands_once c.laws_below.ensures line) bytes n m is other

pub returns-clause-refused : goal.returns-clause-refused
returns-clause-refused c = λ line scripts parts bytes n is other.
    is_no_text (script_parts line) head_text scripts end_text
    (stands_once c.laws_below.ensures line) parts bytes n is other

pub returns-clause-early : goal.returns-clause-early
returns-clause-early c = λ line scripts bytes n is. leaves_early line scripts bytes n is
