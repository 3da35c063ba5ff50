use Rattle.cert_split.specs.text.Grammar.{IsSplitText}
use Rattle.cert_split.specs.check.Check.{IsAccepted, IsSplitFault}
use Rattle.cert_split.specs.{check.Counts.all_verdicts, check.Results.AreSupported}
use Rattle.call_pilot.specs.commands.Recheck.{rejected_pieces}
use Rattle.call_pilot.proofs.once_lemmas.OneAnswer.{checked_once, good_once}
use Rattle.call_pilot.proofs.once.one_answer.each_recheck_has_one_answer.Goals as goal

pub returns : goal.returns
returns c = λ line scripts trees.
    checked_once (IsAccepted line scripts trees) (IsSplitFault line scripts trees)
    (rejected_pieces line scripts)
    (good_once (λ parts. IsSplitText line scripts parts trees) (AreSupported line) all_verdicts
    scripts (λ p q. c.a_split_text_has_one_meaning.ensures line scripts p q trees))
    (λ counts why first.
    c.a_fault_refuses_the_split_text.ensures line scripts trees counts why first)
    (λ f g. c.a_split_text_has_one_first_fault.ensures line scripts trees f g)
