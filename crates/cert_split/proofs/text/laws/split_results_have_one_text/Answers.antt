use Rattle.base_text.specs.lines.WholeLaws.{same_bytes}
use Rattle.cert_claims.specs.text.Grammar.{end_text}
use Rattle.cert_split.specs.text.Grammar.{script_parts, head_text}
use Rattle.cert_split.proofs.text_lemmas.StandsLaws.{stands_as}
use Rattle.cert_split.proofs.text.laws.split_results_have_one_text.Goals as goal

pub returns : goal.returns
returns c = λ line scripts parts bytes others is other.
    same_bytes (script_parts line) head_text scripts end_text (stands_as line) parts bytes others is
    other
