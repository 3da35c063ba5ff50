use Rattle.std.proofs.Common.{◌≡◌, ◌<◌, ◌+◌, true, false, rules, subst, sym, arith}
use Rattle.model_history.specs.Recorded.{at as is_wide}
use Rattle.model_line.specs.{declared.line.Line.Line, Parameters.param_count}
use Rattle.judge_split.proofs.CornerLaws.{CornerSoFar, no_corner_yet, wide_more, closed_more}
use Rattle.judge_split.proofs.corners.corner.Goals as goal
use Rattle.judge_split.proofs.corners.corner.Goals.{then-not-wide-param, else-not-wide-param}

pub loop-param-init : goal.loop-param-init
loop-param-init c =
    no_corner_yet c.args.line.now c.args.wide.now c.args.high c.args.but c.in_ok-corner.corner
    c.in_ok-corner.ensures

pub loop-param-preserved : goal.loop-param-preserved
loop-param-preserved c =
    let line = c.args.line.now in
    let wide = c.args.wide.now in
    let n = c.loop-param.param in
    let old = c.loop-param.corner in
    let there : n < param_count line = search rules in
    elim c.if-not-wide-param.branch [
      | then-not-wide-param w ↦
          let off : is_wide wide n ≡ false = search rules in
          subst (λ (l : Line). CornerSoFar line wide c.args.high c.args.but (n + 1) l) (sym w.corner-is)
          (closed_more c.laws_below.ensures line wide c.args.high c.args.but n
          w.number_in-number.result old w.set_bounds.new.self there off w.number_in-number.ensures
          (record { params = w.set_bounds.ensures.params; rest = w.set_bounds.ensures.rest })
          c.loop-param.invariant)
      | else-not-wide-param w ↦
          let on : is_wide wide n ≡ true = search rules in
          subst (λ (l : Line). CornerSoFar line wide c.args.high c.args.but (n + 1) l) (sym w.corner-is)
          (wide_more line wide c.args.high c.args.but n old on c.loop-param.invariant)
    ]

pub returns : goal.returns
returns c = record {
  rest = c.loop-param.invariant.rest;
  ends = λ i there. c.loop-param.invariant.done i there (omega arith);
}
