-- What the tracks of a list show.
use Rattle.std.proofs.Common.{◌≡◌, ◌<◌, ℕ, List, Some, length}
use Rattle.std.proofs.Common.{arith}
use Rattle.std.specs.Prelude.{slice_get}
use Rattle.run_signal.specs.{declared.level.Level.Level}
use Rattle.run_signal.specs.SentKeys.{SentKeys}
use Rattle.run_step.specs.Ticks.{AreSent}

-- the track of a terminal has all ticks
pub long_enough : (n horizon k t : ℕ) (tracks : List (SentKeys Level)) (track : SentKeys Level)
    → AreSent n horizon horizon tracks → slice_get tracks k ≡ Some track → t < horizon
    → t < length track.keys
long_enough n horizon k t tracks track are at early =
    let long : length track.keys ≡ horizon = (are.each k track at).0 in omega arith
