use Rattle.std.proofs.Common.{◌++◌, ◌∷◌, [], List, ◌∙◌, ap}
use Rattle.model_line.specs.declared.line.Line.{Line}
use Rattle.judge_split.proofs.CornerLaws.{corners_more}
use Rattle.judge_split.proofs.corners.corners.Goals as goal

pub loop-but-preserved : goal.loop-but-preserved
loop-but-preserved c =
    corners_more c.args.line.now c.args.wide.now c.loop-but.but c.loop-but.corners.items
    c.push-in-loop-but.new.self.items c.in_ok-low.low c.in_ok-high.high
    (c.in_ok-push-2.ensures.items
    ∙ ap (λ (l : List Line). l ++ c.in_ok-high.high ∷ []) c.in_ok-push.ensures.items)
    c.in_ok-low.ensures c.in_ok-high.ensures c.loop-but.invariant
