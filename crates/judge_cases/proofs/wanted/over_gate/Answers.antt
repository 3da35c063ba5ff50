use Rattle.std.proofs.Common.{◌≡◌, ◌∙◌, ap}
use Rattle.model_logic.specs.Tree.{Tree, And, Or}
use Rattle.model_settle.specs.Assumed.{wanted, pulse_over}
use Rattle.net_gates.specs.Formulas.{formula_of}
use Rattle.judge_cases.proofs.WeakKey.{weak_key, weak_exists, ahead, still}
use Rattle.judge_cases.proofs.wanted.over_gate.Goals as goal

pub returns-clause-is : goal.returns-clause-is
returns-clause-is c =
    let line = c.args.compiled.now.line.now in
    let k = c.args.terminal in
    let weak = c.requires.weak in
    let gates = c.args.compiled.now.net.now.gates in
    let want : Tree = wanted line k in
    let echo : Tree = And want (still line k weak want) in
    let key : formula_of gates c.key_gate.result.0 ≡ Or (ahead line k weak) echo =
    ap (formula_of gates) c.key_gate.ensures.is
    ∙ c.args.compiled.now.of_line.keys k (weak_exists line k weak) ∙ weak_key line k weak in
    c.argument_of_not.ensures.argument (pulse_over line k)
    (c.second_of_and-still.ensures.second want (still line k weak want)
    (c.second_of_or-echo.ensures.second (ahead line k weak) echo key))
