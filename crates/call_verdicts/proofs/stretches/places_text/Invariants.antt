use Rattle.std.proofs.Common.{◌≡◌}
use Rattle.call_verdicts.specs.Stretches.{place_label, stretches}
use Rattle.call_verdicts.proofs.stretches.places_text.Given as goal

abbrev pub invariant-loop-p : goal.invariant-loop-p
invariant-loop-p l = l.text.items ≡ stretches l.verdicts place_label l.p
