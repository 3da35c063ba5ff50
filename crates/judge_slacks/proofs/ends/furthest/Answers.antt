use Rattle.std.proofs.Common.{◌≡◌, ℕ, length, subst, arith}
use Rattle.judge_slacks.specs.Lacks.{IsShort}
use Rattle.judge_slacks.proofs.ends.furthest.Goals as goal

pub loop-i-init : goal.loop-i-init
loop-i-init c = λ i need lt at. absurd (omega (arith, lt))

pub loop-i-preserved : goal.loop-i-preserved
loop-i-preserved c =
    c.further-short.ensures c.args.needs.now c.loop-i.i c.need_of.ensures c.loop-i.invariant

pub returns : goal.returns
returns c =
    let last : c.loop-i.i ≡ length c.args.needs.now =
    omega (arith, c.loop-i-test.false, c.loop-i.auto.i-end) in
    subst (λ (n : ℕ). IsShort c.args.needs.now n c.loop-i.short) last c.loop-i.invariant
