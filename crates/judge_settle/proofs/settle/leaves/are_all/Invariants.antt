use Rattle.std.proofs.Common.{◌≡◌, ◌<◌, ℕ, Bool, Some}
use Rattle.std.specs.Prelude.{slice_get, IsTrue}
use Rattle.judge_settle.proofs.settle.leaves.are_all.Given as goal

-- each so far
abbrev pub invariant-loop-one : goal.invariant-loop-one
invariant-loop-one l =
    (i : ℕ) (b : Bool) → i < l.one-index → slice_get l.told i ≡ Some b → IsTrue b
