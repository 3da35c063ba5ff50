use Rattle.std.proofs.Common.{◌≡◌, ◌-◌, false, sym, ◌∙◌, arith}
use Rattle.model_history.specs.BelowLaws.{every_below-all, every_below-fails}
use Rattle.call_lint.specs.warnings.ScriptTests.{all_stay}
use Rattle.call_lint.proofs.warnings.scripts.nothing_changes.Goals as goal

pub returns-then-not-all_stay : goal.returns-then-not-all_stay
returns-then-not-all_stay c =
    let changes : all_stay c.args.spans.now c.loop-t.t ≡ false =
    sym c.all_stay.ensures ∙ c.if-not-all_stay.true in
    sym (every_below-fails (all_stay c.args.spans.now) (c.args.horizon - 1) c.loop-t.t
    (omega arith) changes)

pub returns : goal.returns
returns c =
    sym (every_below-all (all_stay c.args.spans.now) (c.args.horizon - 1)
    (λ k lt. c.loop-t.invariant k (omega (arith, lt))))
