use Rattle.std.proofs.Common.{ℕ, List, sym, subst}
use Rattle.call_facts.specs.Told.{IsToldTime, is_told}
use Rattle.call_facts.specs.Lists.{EachOf, those_below}
use Rattle.call_facts.specs.SideLaws.{below_more}
use Rattle.call_facts.proofs.told.told_times.Goals as goal

pub loop-i-preserved : goal.loop-i-preserved
loop-i-preserved c =
    let line = c.args.line.now in
    let timing = c.args.timing.now in
    subst (λ (those : List ℕ). EachOf (IsToldTime line timing) those c.push_told.new.told.items)
    (sym (below_more (is_told line timing) c.loop-i.i))
    (c.in_ok-push_told.ensures (those_below (is_told line timing) c.loop-i.i) c.loop-i.invariant)
