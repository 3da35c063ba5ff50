use Rattle.std.proofs.Common.{◌≡◌, ◌+◌, length, List, ◌∷◌, map, drop, ap, sym, arith, ◌∙◌}
use Rattle.std.proofs.lemmas.List.{drop_more}
use Rattle.file_study.specs.study.Faults.{StageValues, stage_values}
use Rattle.file_study.specs.declared.study.stage.Stage.{Stage}
use Rattle.file_borders.specs.Drawn.{drawing, drawing_of}
use Rattle.file_borders.proofs.Steps.{drawn_step, ticks_step, many_step, lengths_step, shown_step}
use Rattle.file_borders.proofs.drawn.draw.Goals as goal

pub loop-stage-preserved : goal.loop-stage-preserved
loop-stage-preserved c =
    let i = c.loop-stage.stage-index in
    let stages = c.args.stages.now in
    let item : Stage = c.stage-item.result in
    let more : List StageValues = map stage_values (drop (i + 1) stages) in
    let first : map stage_values (drop i stages) ≡ stage_values item ∷ more =
    ap (map stage_values) (drop_more stages i item (omega (arith, c.loop-stage-test.true))
    ∙ ap (λ (s : Stage). s ∷ drop (i + 1) stages) (sym c.stage-item.is)) in
    let all = map stage_values (drop i stages) in
    let end = drawing_of c.args.start (map stage_values stages) in
    let old = drawing c.loop-stage.all in
    let new = drawing c.push_stage.new.all in
    let to : c.len-to.result ≡ length old.borders = grind (arith, c.len-to.ensures) in
    record {
      is = drawn_step c.loop-stage.at c.behind-at.result c.loop-stage.from c.len-to.result old new end
          (stage_values item) more all first c.behind-at.ensures to c.in_ok-push_stage.ensures
          c.loop-stage.invariant.is;
      ticks = ticks_step c.loop-stage.at c.behind-at.result c.loop-stage.from c.len-to.result old new end
          (stage_values item) more all first c.behind-at.ensures to c.in_ok-push_stage.ensures
          c.loop-stage.invariant.ticks;
      borders = many_step c.loop-stage.at c.behind-at.result c.loop-stage.from c.len-to.result old new end
          (stage_values item) more all first c.behind-at.ensures to c.in_ok-push_stage.ensures
          c.loop-stage.invariant.borders;
      lengths = lengths_step c.loop-stage.at c.behind-at.result c.loop-stage.from c.len-to.result old new end
          (stage_values item) more all first c.behind-at.ensures to c.in_ok-push_stage.ensures
          c.loop-stage.invariant.lengths;
      shown = shown_step c.loop-stage.at c.behind-at.result c.loop-stage.from c.len-to.result old new end
          (stage_values item) more all first c.behind-at.ensures to c.in_ok-push_stage.ensures
          c.loop-stage.invariant.shown;
    }
