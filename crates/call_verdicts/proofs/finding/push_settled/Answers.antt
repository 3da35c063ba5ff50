use Rattle.std.proofs.Common.{◌*◌, ◌+◌, ℕ, refl, arith}
use Rattle.std.proofs.lemmas.Option.{slice_get_read}
use Rattle.model_history.specs.ListLaws.{exists_at}
use Rattle.model_line.specs.declared.line.Line.{Line}
use Rattle.model_line.specs.Parameters.{terminal_count}
use Rattle.judge_verdict.specs.verdict.OneEachLaws.{all_there, one_next}
use Rattle.call_verdicts.specs.Findings.{IsFinding}
use Rattle.call_verdicts.proofs.finding.push_settled.Goals as goal

pub bounds-settled-k : goal.bounds-settled-k
bounds-settled-k c =
    let (script, at) = exists_at c.args.cases.now.scripts.now c.args.i c.requires.exists in
    let count = (c.requires.settled script at).count in
    omega (arith, count, c.loop-k-test.true)

pub find-one-requires-clause-answered : goal.find-one-requires-clause-answered
find-one-requires-clause-answered c = λ script at.
    let are = c.requires.settled script at in
    are.each c.loop-k.k c.index-settled-k.result
    (slice_get_read c.args.settled.now _ c.loop-k.k c.index-settled-k.result refl
    (let count = are.count in omega (arith, count, c.loop-k-test.true)) c.index-settled-k.is)

pub loop-k-init : goal.loop-k-init
loop-k-init c =
    let line : Line = c.args.cases.now.compiled.line.now in
    let before : ℕ = c.args.i * terminal_count line in
    all_there (IsFinding line c.args.cases.now.scripts.now) before (before + 0)
    c.args.found.now.items (omega arith) c.requires.before

pub loop-k-preserved : goal.loop-k-preserved
loop-k-preserved c =
    let line = c.args.cases.now.compiled.line.now in
    let before : ℕ = c.args.i * terminal_count line in
    one_next (IsFinding line c.args.cases.now.scripts.now) (before + c.loop-k.k)
    (before + (c.loop-k.k + 1)) c.loop-k.found.items c.push.new.self.items c.find-one.result
    (omega arith) c.in_ok-push.ensures.items c.find-one.ensures c.loop-k.invariant

pub returns : goal.returns
returns c =
    let line : Line = c.args.cases.now.compiled.line.now in
    let before : ℕ = c.args.i * terminal_count line in
    all_there (IsFinding line c.args.cases.now.scripts.now) (before + c.loop-k.k)
    (before + terminal_count line) c.loop-k.found.items (omega arith) c.loop-k.invariant
