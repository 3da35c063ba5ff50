use Rattle.std.proofs.Common.{◌≡◌, ℕ, List, ◌∙◌, ap, arith}
use Rattle.model_history.specs.Rails.{Ends}
use Rattle.judge_borders.proofs.SharedEnds.{own_is, two_of}
use Rattle.judge_borders.proofs.middles.parted.Goals as goal

pub returns : goal.returns
returns c =
    let part : List Ends = c.args.part.now in
    let own : Ends = c.index-part-place.result in
    let a : Ends = c.new.result in
    let b : Ends = c.new-2.result in
    let tick : ℕ = c.nearest-tick.result in
    let low : a.least ≡ own.least = ap (λ (e : Ends). e.least) c.new.ensures ∙ c.least.ensures.least in
    let a_tick : a.greatest ≡ tick = ap (λ (e : Ends). e.greatest) c.new.ensures in
    let b_tick : b.least ≡ tick = ap (λ (e : Ends). e.least) c.new-2.ensures in
    let high : b.greatest ≡ own.greatest =
    ap (λ (e : Ends). e.greatest) c.new-2.ensures ∙ c.greatest.ensures.greatest in
    two_of part (record { lower = c.in_ok-lower.lower; upper = c.in_ok-upper.upper }) c.args.place own a b
    c.requires.part c.requires.exists
    (own_is part c.args.place own c.requires.exists c.index-part-place.is)
    c.in_ok-lower.ensures c.in_ok-upper.ensures low
    (omega (arith, low, a_tick, c.nearest-tick.ensures.from))
    (omega (arith, a_tick, c.nearest-tick.ensures.to))
    (omega (arith, b_tick, a_tick)) high
