use Rattle.model_line.specs.Channels.{AreChannelsBelow}
use Rattle.model_line.proofs.channels.are_pairs.Given as goal

abbrev pub invariant-loop-c : goal.invariant-loop-c
invariant-loop-c l = AreChannelsBelow l.count l.channels l.c
