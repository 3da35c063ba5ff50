use Rattle.std.proofs.Common.{◌≡◌, ℕ, ◌<◌, Some}
use Rattle.std.specs.Prelude.{slice_get}
use Rattle.run_signal.specs.SentKeys.{SentKeys}
use Rattle.net_gates.specs.NetOf.{key_of}
use Rattle.run_changes.specs.changes.Hears.{IsLastKey}
use Rattle.run_changes.proofs.changes.hear.keys_stay.Given as goal

abbrev pub invariant-loop-k : goal.invariant-loop-k
invariant-loop-k g l =
    (k : ℕ) (s : SentKeys _) (x : _) → k < l.k → slice_get l.sent k ≡ Some s
    → slice_get l.column (key_of l.net k) ≡ Some x
    → IsLastKey g.V.Signal.signal s.keys x
