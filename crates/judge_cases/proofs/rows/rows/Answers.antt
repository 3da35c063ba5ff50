use Rattle.std.proofs.Common.{◌≡◌, ◌≤◌, ◌*◌, ℕ, ◌∙◌, subst, arith}
use Rattle.judge_cases.specs.Rows.{AreRows}
use Rattle.judge_cases.proofs.RowLaws.{rows_none}
use Rattle.judge_cases.proofs.rows.rows.Goals as goal

pub loop-terminal-init : goal.loop-terminal-init
loop-terminal-init c =
    rows_none c.args.compiled.now.line.now c.args.compiled.now.net.now
    c.len.result c.in_ok-rows.rows.items c.len.ensures.len
    c.in_ok-rows.ensures

pub returns : goal.returns
returns c =
    let over : c.terminals-count.result ≤ c.loop-terminal.terminal = c.loop-terminal-test.false in
    let under : c.loop-terminal.terminal ≤ c.terminals-count.result = c.loop-terminal.auto.terminal-end in
    let last : c.loop-terminal.terminal ≡ c.terminals-count.result = omega arith in
    subst (λ (n : ℕ). AreRows c.args.compiled.now.line.now c.args.compiled.now.net.now (n * 2)
    c.loop-terminal.rows.items) (last ∙ c.terminals-count.ensures.count)
    c.loop-terminal.invariant
