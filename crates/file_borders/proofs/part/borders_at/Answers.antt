use Rattle.std.proofs.Common.{◌≡◌, List, length, take, arith, subst}
use Rattle.std.proofs.Math.Seq.{take-length}
use Rattle.file_borders.specs.declared.drawn.At.{At}
use Rattle.file_borders.specs.Drawn.{AreBorders}
use Rattle.file_borders.proofs.Steps.{borders_step}
use Rattle.file_borders.proofs.part.borders_at.Goals as goal

pub loop-i-preserved : goal.loop-i-preserved
loop-i-preserved c =
    borders_step c.args.ats.now c.loop-i.borders.items c.push.new.self.items (record { ticks = 0; lengths = 0 })
    c.in_ok-border.border c.loop-i.i (omega (arith, c.loop-i-test.true)) c.loop-i.invariant c.in_ok-border.ensures
    c.in_ok-push.ensures.items

pub returns : goal.returns
returns c =
    let ats = c.args.ats.now in
    let all : length ats ≡ c.loop-i.i = omega (arith, c.loop-i-test.false, c.loop-i.auto.i-end) in
    subst (λ (l : List At). AreBorders l c.loop-i.borders.items)
    (subst (λ n. take n ats ≡ ats) all (take-length ats)) c.loop-i.invariant
