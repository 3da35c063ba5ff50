use Rattle.std.proofs.Common.{◌≡◌, ◌∷◌, take}
use Rattle.call_verdicts.specs.Records.{times_text}
use Rattle.call_verdicts.proofs.fields.times_from.Given as goal

abbrev pub invariant-loop-t : goal.invariant-loop-t
invariant-loop-t l = l.text.items ≡ times_text l.tick_us (l.first ∷ take l.t-index l.more)
