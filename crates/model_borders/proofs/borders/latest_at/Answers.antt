use Rattle.std.proofs.Common.{◌+◌, ◌-◌, ℕ, true, ◌∙◌, ap, arith}
use Rattle.model_borders.specs.Borders.{latest, reach}
use Rattle.model_borders.proofs.borders.latest_at.Goals as goal

pub returns-clause-place : goal.returns-clause-place
unfolding latest
returns-clause-place c =
    c.saturating_sub.ensures
    ∙ ap (λ (y : ℕ). c.args.place + y - c.reach-ahead.result) c.reach-behind.ensures.sum
    ∙ ap (λ (y : ℕ). c.args.place
    + reach c.args.borders.now c.args.part.now true c.args.still c.args.border - y)
    c.reach-ahead.ensures.sum

pub returns-clause-limited : goal.returns-clause-limited
returns-clause-limited c =
    omega (arith, c.saturating_sub.ensures, c.requires.place, c.reach-behind.ensures.limited)
