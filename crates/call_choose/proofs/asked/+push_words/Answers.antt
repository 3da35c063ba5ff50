use Rattle.std.proofs.Common.{◌++◌}
use Rattle.std.proofs.lemmas.Result.{on_ok_weaker}
use Rattle.call_choose.proofs.AskLaws.{are_joined, later_fault, rows_of_all}
use Rattle.call_choose.proofs.asked.+push_words.Goals as goal

pub returns-in_ok-push_word-in-len1-up-clause-denied :
    goal.returns-in_ok-push_word-in-len1-up-clause-denied
returns-in_ok-push_word-in-len1-up-clause-denied t c why is =
    let (rows, first, more) = c.in_ok-push_word-in-len1-up.ensures.is in
    later_fault c.args.line.now c.args.place c.args.words.now c.word-item.result rows why
    c.in-len1-up.len_at_least c.word-item.is (rw c.deref.ensures.value at first)
    (c.push_words.ensures.denied why is)

pub returns-in_ok-push_word-in-len1-up-clause-is :
    goal.returns-in_ok-push_word-in-len1-up-clause-is
returns-in_ok-push_word-in-len1-up-clause-is t c =
    let (rows, first, own) = c.in_ok-push_word-in-len1-up.ensures.is in
    on_ok_weaker c.push_words.result (λ told.
    let (more, rest, others) = told in (
      rows ++ more,
      rows_of_all c.args.line.now c.args.place c.args.words.now c.word-item.result rows more
          c.in-len1-up.len_at_least c.word-item.is (rw c.deref.ensures.value at first) rest,
      λ before are. are_joined c.args.line.now before rows more _ _
          (others (before ++ rows) (own before are)),
    )) c.push_words.ensures.is
