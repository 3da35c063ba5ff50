use Rattle.std.proofs.Common.{◌≡◌}
use Rattle.call_verdicts.specs.Stretches.{stretches, values_label}
use Rattle.call_verdicts.proofs.stretches.values_text.Given as goal

abbrev pub invariant-loop-p : goal.invariant-loop-p
invariant-loop-p l = l.text.items ≡ stretches l.verdicts (values_label l.tick_us l.group) l.p
