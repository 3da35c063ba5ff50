use Rattle.call_pilot.proofs.once_lemmas.EachText.{each_text}
use Rattle.call_pilot.proofs.once.one_answer.each_text_is_a_certificate_or_leaves_the_grammar.Goals as goal

pub returns : goal.returns
returns c = λ line scripts bytes. each_text line scripts bytes
