use Rattle.std.proofs.Common.{◌+◌, length-append, ap, ◌∙◌, ℕ, ◌∷◌, [], length, sym, ◌*◌, ◌≡◌, subst, arith}
use Rattle.model_history.specs.ListLaws.{each_more}
use Rattle.model_line.specs.Parameters.{param_count}
use Rattle.judge_margins.specs.margins.Widened.{param_at, side_at}
use Rattle.judge_slacks.specs.Lacks.{AreLacksOf, IsLack}
use Rattle.judge_slacks.proofs.LackLaws.{lacks_deep}
use Rattle.judge_slacks.proofs.ends.lacks.Goals as goal

pub loop-place-preserved : goal.loop-place-preserved
loop-place-preserved c = record {
  count = ap length c.in_ok-push.ensures.items
      ∙ length-append c.loop-place.lacks.items (c.in_ok-lack.lack ∷ [])
      ∙ ap (λ (n : ℕ). n + 1) c.loop-place.invariant.count;
  each = each_more (λ place lack. IsLack c.args.compiled.now.line.now c.args.scripts.now
      c.args.others.now (param_at place) (side_at place) lack)
      c.loop-place.lacks.items c.push.new.self.items c.in_ok-lack.lack c.loop-place.place
      c.in_ok-push.ensures.items (sym c.loop-place.invariant.count) c.loop-place.invariant.each
      c.in_ok-lack.ensures;
}

pub returns : goal.returns
returns c =
    let line = c.args.compiled.now.line.now in
    let lacks = c.loop-place.lacks.items in
    let last : c.loop-place.place ≡ 2 * param_count line =
    omega (arith, c.loop-place-test.false, c.loop-place.auto.place-end, c.param_count.ensures) in
    let are = subst (λ (n : ℕ). AreLacksOf line c.args.scripts.now c.args.others.now n lacks) last
    c.loop-place.invariant in
    record {
      lacks = are;
      deep = lacks_deep line c.args.scripts.now c.args.others.now c.requires.off lacks are;
    }
