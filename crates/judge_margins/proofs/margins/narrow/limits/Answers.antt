use Rattle.std.proofs.Common.{◌≡◌, ◌+◌, ◌∷◌, [], ℕ, length, length-append, sym, ◌∙◌, ap}
use Rattle.judge_margins.specs.{declared.margins.end.End.End, margins.Ends.limit_of}
use Rattle.model_history.specs.ListLaws.{each_more}
use Rattle.judge_margins.proofs.margins.narrow.limits.Goals as goal

pub loop-place-preserved : goal.loop-place-preserved
loop-place-preserved c =
    let line = c.args.line.now in
    let old = c.loop-place.ends.items in
    record {
      count = ap length c.in_ok-push.ensures.items
          ∙ length-append old (c.limit_at.result ∷ [])
          ∙ ap (λ (m : ℕ). m + 1) c.loop-place.invariant.count;
      each = each_more (λ i (end : End). end ≡ limit_of line i) old c.push.new.self.items
          c.limit_at.result c.loop-place.place c.in_ok-push.ensures.items
          (sym c.loop-place.invariant.count) c.loop-place.invariant.each c.limit_at.ensures;
    }
