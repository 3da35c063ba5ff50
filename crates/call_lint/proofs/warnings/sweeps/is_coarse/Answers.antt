use Rattle.std.proofs.Common.{◌≡◌, ◌-◌, false, length, not, sym, ◌∙◌, ap, arith}
use Rattle.model_history.specs.BelowLaws.{every_below-all, every_below-fails}
use Rattle.call_lint.specs.warnings.SweepTests.{is_near}
use Rattle.call_lint.proofs.warnings.sweeps.is_coarse.Goals as goal

pub returns-then-not-is_near : goal.returns-then-not-is_near
returns-then-not-is_near c =
    let far : is_near c.args.time.now c.loop-k.k ≡ false =
    sym c.is_near.ensures ∙ c.if-not-is_near.true in
    sym (ap not (every_below-fails (is_near c.args.time.now) (length c.args.time.now - 1) c.loop-k.k
    (omega arith) far))

pub returns : goal.returns
returns c =
    sym (ap not (every_below-all (is_near c.args.time.now) (length c.args.time.now - 1)
    (λ k lt. c.loop-k.invariant k (omega (arith, lt)))))
