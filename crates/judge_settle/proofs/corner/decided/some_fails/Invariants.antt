use Rattle.std.proofs.Common.{◌≡◌, ◌<◌, ℕ, Bool, Some}
use Rattle.std.specs.Prelude.{slice_get, IsTrue}
use Rattle.judge_settle.proofs.corner.decided.some_fails.Given as goal

-- each so far is held
abbrev pub invariant-loop-one : goal.invariant-loop-one
invariant-loop-one l =
    (k : ℕ) (b : Bool) → k < l.one-index → slice_get l.held k ≡ Some b → IsTrue b
