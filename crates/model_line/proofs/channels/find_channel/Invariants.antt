use Rattle.std.proofs.Common.{◌≡◌, take, false}
use Rattle.std.specs.List.{list_any}
use Rattle.model_line.specs.Channels.{is_pair}
use Rattle.model_line.proofs.channels.find_channel.Given as goal

abbrev pub invariant-loop-c : goal.invariant-loop-c
invariant-loop-c l = list_any (is_pair l.from l.to) (take l.c l.channels) ≡ false
