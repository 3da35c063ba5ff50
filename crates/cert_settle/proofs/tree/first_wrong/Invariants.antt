use Rattle.cert_settle.specs.Walks.{NoneIsWrong}
use Rattle.cert_settle.proofs.tree.first_wrong.Given as goal

abbrev pub invariant-loop-i : goal.invariant-loop-i
invariant-loop-i l = NoneIsWrong l.yes l.shown l.i
