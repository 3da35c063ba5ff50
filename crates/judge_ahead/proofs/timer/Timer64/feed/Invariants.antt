use Rattle.judge_ahead.proofs.timer.Timer64.feed.Given as goal

abbrev pub decreases-lanes : goal.decreases-lanes
decreases-lanes l = l.touched
