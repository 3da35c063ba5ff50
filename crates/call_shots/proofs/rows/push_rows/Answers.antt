use Rattle.std.proofs.Common.{◌*◌, ◌+◌, ℕ, arith}
use Rattle.model_line.specs.declared.line.Line.{Line}
use Rattle.model_line.specs.Parameters.{terminal_count}
use Rattle.judge_verdict.specs.verdict.OneEachLaws.{all_there, one_next}
use Rattle.call_shots.specs.Rows.{IsRow}
use Rattle.call_shots.proofs.rows.push_rows.Goals as goal

pub loop-k-init : goal.loop-k-init
loop-k-init c =
    let line : Line = c.args.cases.now.compiled.line.now in
    let before : ℕ = c.args.i * terminal_count line in
    all_there (IsRow line c.args.cases.now.scripts.now c.args.shots.now) before (before + 0)
    c.args.rows.now.items (omega arith) c.requires.before

pub loop-k-preserved : goal.loop-k-preserved
loop-k-preserved c =
    let line = c.args.cases.now.compiled.line.now in
    let before : ℕ = c.args.i * terminal_count line in
    one_next (IsRow line c.args.cases.now.scripts.now c.args.shots.now) (before + c.loop-k.k)
    (before + (c.loop-k.k + 1)) c.loop-k.rows.items c.push.new.self.items c.row_of-one.result
    (omega arith) c.in_ok-push.ensures.items c.row_of-one.ensures c.loop-k.invariant

pub returns : goal.returns
returns c =
    let line : Line = c.args.cases.now.compiled.line.now in
    let before : ℕ = c.args.i * terminal_count line in
    all_there (IsRow line c.args.cases.now.scripts.now c.args.shots.now) (before + c.loop-k.k)
    (before + terminal_count line) c.loop-k.rows.items (omega arith) c.loop-k.invariant
