use Rattle.std.proofs.Common.{arith}
use Rattle.call_page.proofs.Nearest.{nearest_first, nearer, no_nearer, nearest_of_all}
use Rattle.call_page.proofs.worst.shown.Goals as goal
use Rattle.call_page.proofs.worst.shown.Goals.{then-distance-least, else-distance-least}

pub loop-k-init : goal.loop-k-init
loop-k-init c =
    let known = c.args.known.now in
    nearest_first known.study.now.line known.study.now.scripts.items known.rows.now
    known.firsts.now c.args.part.start c.args.part.count c.worst-shown.result
    c.distance_at-least.result c.worst-shown.ensures c.distance_at-least.ensures

pub loop-k-preserved : goal.loop-k-preserved
loop-k-preserved c =
    let known = c.args.known.now in
    elim c.if-distance-least.branch [
      | then-distance-least w ↦
          rw (w.shown-is, w.least-is)
          (nearer known.study.now.line known.study.now.scripts.items known.rows.now
          known.firsts.now c.args.part.start c.args.part.count c.loop-k.k c.loop-k.shown
          c.loop-k.least c.worst-place.result c.distance_at-distance.result
          c.worst-place.ensures c.distance_at-distance.ensures w.if-distance-least.true
          c.loop-k.invariant)
      | else-distance-least w ↦
          rw (w.shown-is, w.least-is)
          (no_nearer known.study.now.line known.study.now.scripts.items known.rows.now
          known.firsts.now c.args.part.start c.args.part.count c.loop-k.k c.loop-k.shown
          c.loop-k.least c.worst-place.result c.distance_at-distance.result
          c.worst-place.ensures c.distance_at-distance.ensures w.if-distance-least.false
          c.loop-k.invariant)
    ]

pub returns : goal.returns
returns c =
    let known = c.args.known.now in
    nearest_of_all known.study.now.line known.study.now.scripts.items known.rows.now
    known.firsts.now c.args.part.start c.args.part.count c.loop-k.k c.loop-k.shown c.loop-k.least
    (omega (arith, known.study.now.line.two_or_three.0)) c.loop-k.invariant
