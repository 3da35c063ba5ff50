use Rattle.std.proofs.Common.{ℕ, ◌≤◌, ◌<◌, length}
use Rattle.model_history.specs.Comes.{Comes}
use Rattle.run_signal.specs.Sent.{sent_may}
use Rattle.run_signal.proofs.carried_tern.may_come.Given as goal

abbrev pub invariant-loop-c : goal.invariant-loop-c
invariant-loop-c l = (k : ℕ) → l.least ≤ k → k < l.c → Comes (sent_may l.sent.keys) k (length l.sent.keys) → ⊥
