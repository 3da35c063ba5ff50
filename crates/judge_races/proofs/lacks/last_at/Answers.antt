use Rattle.std.proofs.Common.{◌-◌, arith}
use Rattle.std.proofs.lemmas.Option.{slice_get-get_or}
use Rattle.judge_races.proofs.LackLaws.{last_early, last_off, last_on}
use Rattle.judge_races.proofs.lacks.last_at.Goals as goal

pub returns-then-t-pickup : goal.returns-then-t-pickup
returns-then-t-pickup c = λ u are. last_early u c.args.pickup c.args.t c.args.last c.if-t-pickup.true

pub returns-then-off-from : goal.returns-then-off-from
returns-then-off-from c = λ u are _.
    let s = c.args.t - c.args.pickup in
    last_on u c.args.pickup c.args.t _ _ c.min.result (omega (arith, c.min.ensures)) c.if-t-pickup.false
    c.requires.within
    (are.each s _ (slice_get-get_or c.args.offs.now s 0 (omega (arith, c.requires.within))))
    c.if-off-from.true

pub returns-else-off-from : goal.returns-else-off-from
returns-else-off-from c = λ u are.
    let s = c.args.t - c.args.pickup in
    last_off u c.args.pickup c.args.t _ _ c.args.last c.if-t-pickup.false c.requires.within
    (are.each s _ (slice_get-get_or c.args.offs.now s 0 (omega (arith, c.requires.within))))
    c.if-off-from.false
