use Rattle.std.proofs.Common.{◌≡◌, ◌+◌, length-append, ap, ◌∙◌, ℕ, ◌∷◌, [], length, sym, subst, arith}
use Rattle.model_history.specs.ListLaws.{each_more}
use Rattle.judge_slacks.specs.Lacks.{AreNeeds, IsNeedAt}
use Rattle.judge_slacks.proofs.ends.needs_of.Goals as goal

pub loop-i-preserved : goal.loop-i-preserved
loop-i-preserved c = record {
  count = ap length c.in_ok-push.ensures.items
      ∙ length-append c.loop-i.needs.items (c.in_ok-need.need ∷ [])
      ∙ ap (λ (n : ℕ). n + 1) c.loop-i.invariant.count;
  each = each_more (λ i need. IsNeedAt c.args.compiled.now.line.now c.args.scripts.now
      c.args.others.now c.args.param c.args.side i need)
      c.loop-i.needs.items c.push.new.self.items c.in_ok-need.need c.loop-i.i
      c.in_ok-push.ensures.items (sym c.loop-i.invariant.count) c.loop-i.invariant.each
      c.in_ok-need.ensures;
}

pub returns : goal.returns
returns c =
    let last : c.loop-i.i ≡ length c.args.others.now =
    omega (arith, c.loop-i-test.false, c.loop-i.auto.i-end) in
    subst (λ (n : ℕ). AreNeeds c.args.compiled.now.line.now c.args.scripts.now c.args.others.now
    c.args.param c.args.side n c.loop-i.needs.items) last c.loop-i.invariant
