use Rattle.std.proofs.Common.{◌-◌, length}
use Rattle.judge_match.proofs.explain.outlook.note_track.Given as goal

abbrev pub decreases-stretches : goal.decreases-stretches
decreases-stretches l = length l.track.keys - l.t
