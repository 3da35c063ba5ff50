use Rattle.std.proofs.Common.{◌≡◌, ℕ, Option, None, arith, refl}
use Rattle.judge_verdict.specs.verdict.OneEachLaws.{one_next}
use Rattle.call_page.proofs.spares.none_each.Goals as goal

pub loop-k-preserved : goal.loop-k-preserved
loop-k-preserved c =
    one_next (λ k (spare : Option ℕ). spare ≡ None) c.loop-k._k _ c.loop-k.spares.items
    c.push.new.self.items None (omega arith) c.in_ok-push.ensures.items refl c.loop-k.invariant
