use Rattle.std.proofs.Common.{◌≢◌, ℕ, ◌<◌}
use Rattle.std.specs.Prelude.{IsTrue, is_some}
use Rattle.model_line.specs.Channels.{AreFoundBelow, channel_number}
use Rattle.model_line.proofs.channels.are_found.Given as goal

abbrev pub invariant-loop-j : goal.invariant-loop-j
invariant-loop-j l = AreFoundBelow l.count l.channels l.j

abbrev pub invariant-loop-k : goal.invariant-loop-k
invariant-loop-k l =
    AreFoundBelow l.count l.channels l.j
    × ((k : ℕ) → k < l.k → l.j ≢ k → IsTrue (is_some (channel_number l.channels l.j k)))
