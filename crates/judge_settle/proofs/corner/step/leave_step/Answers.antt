use Rattle.std.proofs.Common.{true, sym, subst}
use Rattle.model_timing.specs.{Inside.IsTimingInside, Timing.TimingValues}
use Rattle.judge_settle.specs.corner.Rounds.{IsTried}
use Rattle.judge_settle.proofs.corner_lemmas.Tries.{inside_without, try_of}
use Rattle.judge_settle.proofs.corner.step.leave_step.Goals as goal

pub fails-requires-clause-inside : goal.fails-requires-clause-inside
fails-requires-clause-inside c =
    let line = c.args.of.now.compiled.line.now in
    subst (IsTimingInside line) (sym c.in_ok-tried.ensures)
    (inside_without line c.args.cut.now c.args.j c.requires.fails.inside c.requires.step)

pub returns-then-branch : goal.returns-then-branch
returns-then-branch c =
    let of = c.args.of.now in
    let line = of.compiled.line.now in
    let cut = c.args.cut.now in
    let tried = c.in_ok-tried.tried in
    subst (λ (t : TimingValues). IsTried of cut t tried true) c.in_ok-tried.ensures
    (try_of of cut tried
    (subst (IsTimingInside line) (sym c.in_ok-tried.ensures)
    (inside_without line cut c.args.j c.requires.fails.inside c.requires.step))
    c.in_ok-fails.field-0 c.in_ok-fails.ensures c.if-branch.true)
