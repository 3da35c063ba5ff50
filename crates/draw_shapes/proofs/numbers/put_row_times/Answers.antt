use Rattle.std.proofs.Common.{◌≡◌, ◌+◌, ◌/◌, ◌++◌, ℕ, arith, subst}
use Rattle.std.proofs.Math.Nat.{div-le_self}
use Rattle.model_history.specs.Each.{each_below}
use Rattle.model_history.specs.EachLaws.{list_more}
use Rattle.draw_shapes.specs.Seen.{figures_seen}
use Rattle.draw_shapes.specs.Numbers.{row_time}
use Rattle.draw_shapes.proofs.Rounds.{round_within}
use Rattle.draw_shapes.proofs.numbers.put_row_times.Goals as goal

pub overflow_add-n-end : goal.overflow_add-n-end
overflow_add-n-end c = omega (arith, div-le_self c.last.result c.args.round)

pub put_row_time-requires-clause-time : goal.put_row_time-requires-clause-time
put_row_time-requires-clause-time c =
    omega (arith, round_within c.loop-n.n c.last.result c.args.round c.loop-n-test.true)

pub loop-n-preserved : goal.loop-n-preserved
loop-n-preserved c =
    list_more _ _ _ (row_time c.args.scale c.args.ruler.now c.args.round) c.loop-n.n
    c.loop-n.invariant c.in_ok-put_row_time.ensures

pub returns : goal.returns
returns c =
    let count : c.loop-n.n ≡ c.last.result / c.args.round + 1 = omega arith in
    let all = subst (λ (n : ℕ). figures_seen c.loop-n.figures.items
    ≡ figures_seen c.args.figures.now.items
    ++ each_below n (row_time c.args.scale c.args.ruler.now c.args.round)) count c.loop-n.invariant in
    subst (λ (last : ℕ). figures_seen c.loop-n.figures.items
    ≡ figures_seen c.args.figures.now.items
    ++ each_below (last / c.args.round + 1)
    (row_time c.args.scale c.args.ruler.now c.args.round)) c.last.ensures.is all
