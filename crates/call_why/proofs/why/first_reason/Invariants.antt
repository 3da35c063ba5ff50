use Rattle.std.proofs.Common.{drop}
use Rattle.call_why.specs.declared.why.Found.{Found}
use Rattle.call_why.specs.Why.{IsFound, IsNone, IsTold, of_first}
use Rattle.call_why.proofs.why.first_reason.Given as goal

-- what is found of the scripts that are left is found of all
abbrev pub invariant-loop-i : goal.invariant-loop-i
invariant-loop-i l = (found : Found)
    → of_first l.compiled.line.now l.terminal (drop l.i l.scripts) l.unsettled (IsNone found)
    (IsTold l.scripts found)
    → IsFound l.compiled.line.now l.scripts l.terminal found
