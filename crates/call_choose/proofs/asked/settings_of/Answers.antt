use Rattle.std.proofs.Common.{[], sym}
use Rattle.call_choose.proofs.asked.settings_of.Goals as goal

pub returns-clause-is : goal.returns-clause-is
returns-clause-is c =
    let (rows, asked, are) = c.in_ok-push_words.ensures.is in (
      rows,
      rw (sym c.in_ok-words.ensures) (rw c.deref.ensures.value at asked),
      are [] (rw (c.new.ensures.items, c.new-2.ensures.items) tt),
    )
