-- What the tracks of a list show.
use Rattle.std.proofs.Common.{◌≡◌, ◌<◌, ℕ, List, Some, length, arith}
use Rattle.std.specs.Prelude.{slice_get}
use Rattle.run_signal.specs.{declared.level.Level.Level}
use Rattle.run_signal.specs.SentKeys.{SentKeys}
use Rattle.run_step.specs.Ticks.{AreSent}

-- each track has all ticks
pub all_ticks : (n horizon t : ℕ) (tracks : List (SentKeys Level))
    → AreSent n horizon horizon tracks → t < horizon → (k : ℕ) (track : SentKeys Level)
    → slice_get tracks k ≡ Some track → t < length track.keys
all_ticks n horizon t tracks are early k track at =
    let long : length track.keys ≡ horizon = (are.each k track at).0 in
    omega arith
