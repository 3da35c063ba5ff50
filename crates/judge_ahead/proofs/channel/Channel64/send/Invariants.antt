use Rattle.judge_ahead.proofs.channel.Channel64.send.Given as goal

abbrev pub decreases-lanes : goal.decreases-lanes
decreases-lanes l = l.changed
