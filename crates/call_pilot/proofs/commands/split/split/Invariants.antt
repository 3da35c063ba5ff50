use Rattle.std.proofs.Common.{take}
use Rattle.call_pilot.proofs.commands_lemmas.Searched.{AreBegun}
use Rattle.call_pilot.proofs.commands.split.split.Given as goal

abbrev pub invariant-loop-script : goal.invariant-loop-script
invariant-loop-script l =
    AreBegun l.study.line l.depth (take l.script-index l.scripts) l.text.items l.found
