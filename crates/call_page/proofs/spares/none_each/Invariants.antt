use Rattle.std.proofs.Common.{◌≡◌, ℕ, Option, None}
use Rattle.judge_verdict.specs.verdict.OneEach.{OneEach}
use Rattle.call_page.proofs.spares.none_each.Given as goal

abbrev pub invariant-loop-k : goal.invariant-loop-k
invariant-loop-k l = OneEach (λ k (spare : Option ℕ). spare ≡ None) l._k l.spares.items
