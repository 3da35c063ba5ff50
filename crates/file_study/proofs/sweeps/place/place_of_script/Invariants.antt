use Rattle.std.proofs.Common.{◌≡◌, drop}
use Rattle.file_study.specs.sweeps.Places.{place_in}
use Rattle.file_study.proofs.sweeps.place.place_of_script.Given as goal

abbrev pub invariant-loop-i : goal.invariant-loop-i
invariant-loop-i l = place_in l.groups l.script ≡ place_in (drop l.i l.groups) l.left
