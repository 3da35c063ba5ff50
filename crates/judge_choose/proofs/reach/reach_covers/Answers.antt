use Rattle.std.proofs.Common.{◌+◌, ◌∙◌, ℕ, [], ◌∷◌, length, length-append, ap, refl}
use Rattle.model_history.specs.ListLaws.{each_more}
use Rattle.judge_choose.specs.{declared.cover.Cover.Cover, Positions.IsCover}
use Rattle.judge_choose.proofs.reach.reach_covers.Goals as goal

pub loop-lane-preserved : goal.loop-lane-preserved
loop-lane-preserved c =
    let line = c.args.line.now in
    let old = c.loop-lane.covers.items in
    let cover = c.cover_between.result in
    let grown = c.in_ok-push.ensures.items in record {
      count = ap length grown ∙ length-append old (cover ∷ [])
          ∙ ap (λ (n : ℕ). n + 1) c.loop-lane.invariant.count;
      covers = each_more (λ _ (x : Cover). IsCover line x) old c.push.new.self.items cover
          (length old) grown refl c.loop-lane.invariant.covers c.cover_between.ensures;
    }
