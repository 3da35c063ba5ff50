use Rattle.std.proofs.Common.{◌≡◌, ℕ}
use Rattle.run_step.specs.LoopLaws.{FirstHave}
use Rattle.run_changes.proofs.changes.marks.have_none.Given as goal

abbrev pub invariant-loop-k : goal.invariant-loop-k
invariant-loop-k l = FirstHave (λ (word : ℕ). word ≡ 0) l.words l.k
