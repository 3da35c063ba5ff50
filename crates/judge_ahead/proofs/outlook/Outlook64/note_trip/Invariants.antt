use Rattle.judge_ahead.proofs.outlook.Outlook64.note_trip.Given as goal

abbrev pub decreases-lanes : goal.decreases-lanes
decreases-lanes l = l.fresh
