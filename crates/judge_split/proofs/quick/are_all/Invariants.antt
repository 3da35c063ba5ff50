use Rattle.std.proofs.Common.{◌≡◌, ◌<◌, ℕ, Bool, Some}
use Rattle.std.specs.Prelude.{IsTrue, slice_get}
use Rattle.judge_split.proofs.quick.are_all.Given as goal

abbrev pub invariant-loop-one : goal.invariant-loop-one
invariant-loop-one l =
    (i : ℕ) (b : Bool) → i < l.one-index → slice_get l.held i ≡ Some b → IsTrue b
