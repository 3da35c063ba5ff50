use Rattle.std.proofs.Common.{◌≤◌, ◌<◌, ◌+◌, arith}
use Rattle.draw_run.specs.{layout.Left.left_of, layout.Left.scale_of}
use Rattle.draw_run.proofs.layout_lemmas.Shown.{shows}
use Rattle.draw_run.proofs.layout.laws.bars_show_the_history.Goals as goal

pub returns : goal.returns
returns c = λ line gates script w steps which diagram is k d within base t held.
    let short = line.horizon_in_range.1 in
    let below : t < line.horizon = omega (arith, held.1, is.within) in
    let left : left_of line diagram.rows.items ≤ 3500 = omega arith in
    let scale = scale_of line diagram in
    shows scale t (c.places_follow_the_ticks.ensures.order scale)
    (c.places_follow_the_ticks.ensures.apart scale t (t + 1)
    (omega (arith, is.within, short, left)) held.0 (omega arith) (omega (arith, held.1)))
    script w _ base line.horizon below (is.rows k d within).stretches
