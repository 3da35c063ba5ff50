use Rattle.std.proofs.Common.{take}
use Rattle.call_inspect.proofs.Inspecting.{SoFar}
use Rattle.call_inspect.proofs.inspected.inspected_against.Given as goal

abbrev pub invariant-loop-file : goal.invariant-loop-file
invariant-loop-file l =
    SoFar l.ground (take l.file-index l.files) l.worst l.text.items
