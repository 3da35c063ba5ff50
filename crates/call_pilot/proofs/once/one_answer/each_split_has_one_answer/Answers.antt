use Rattle.std.proofs.Common.{refl}
use Rattle.cert_split.specs.check.Counts.{all_verdicts}
use Rattle.cert_split.specs.text.Text.{split_text}
use Rattle.call_pilot.specs.commands.Verdicts.{verdicts_status}
use Rattle.call_pilot.proofs.once_lemmas.OneAnswer.{split_once}
use Rattle.call_pilot.proofs.once.one_answer.each_split_has_one_answer.Goals as goal

pub returns : goal.returns
returns c = record {
  exists = λ line scripts n fit small.
      let (parts, searched) =
      c.each_search_has_an_outcome.ensures.all line n scripts fit small in (
        verdicts_status (all_verdicts parts),
        split_text line scripts parts,
        record { parts = parts; searched = searched; status_is = refl; text_is = refl },
      );
  only = λ line scripts n.
      split_once line scripts n (c.each_search_has_one_outcome.ensures.only line n scripts);
}
