use Rattle.std.proofs.Common.{ℕ, sym, subst, arith}
use Rattle.judge_verdict.specs.declared.verdict.standing.Standing.{Standing}
use Rattle.judge_verdict.specs.verdict.Standings.{IsStanding, StandsFailing}
use Rattle.judge_verdict.proofs.verdict_lemmas.StandingLaws.{stands_failing, stands_open}
use Rattle.judge_verdict.proofs.verdict.standing.settled.Goals as goal

pub returns-then-lane-lt64 : goal.returns-then-lane-lt64
returns-then-lane-lt64 c = λ w is.
    let line = c.args.line.now in
    let script = c.args.script.now in
    let k = c.args.terminal in
    let first = c.args.first in
    let inside = c.if-lane-lt64.true in
    subst (λ (n : ℕ). StandsFailing line script k w n) (sym c.candidate_in.ensures.number)
    (stands_failing line script k w first c.failing.result
    (c.failing.ensures first c.requires.run)
    (subst (λ (s : Standing). IsStanding line script k w first s) c.in-Open.is is)
    c.first-lane.result inside (c.first-lane.ensures.on inside) c.first-lane.ensures.off)

pub returns-else-lane-lt64 : goal.returns-else-lane-lt64
returns-else-lane-lt64 c = λ w is.
    let line = c.args.line.now in
    let script = c.args.script.now in
    let k = c.args.terminal in
    let first = c.args.first in
    let past = c.if-lane-lt64.false in
    stands_open line script k w first c.failing.result (c.failing.ensures first c.requires.run)
    (subst (λ (s : Standing). IsStanding line script k w first s) c.in-Open.is is)
    (λ l inside. c.first-lane.ensures.off l inside (omega arith))
