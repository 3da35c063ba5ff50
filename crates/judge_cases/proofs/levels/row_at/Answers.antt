use Rattle.std.proofs.Common.{◌≡◌, ◌<◌, Some, None, length, ◌∙◌, ap, arith}
use Rattle.std.proofs.lemmas.Option.{slice_get-get_or}
use Rattle.std.specs.Prelude.{slice_get}
use Rattle.judge_cases.proofs.OneGate.{one_gate}
use Rattle.judge_cases.proofs.RowLaws.{no_row, row_is}
use Rattle.judge_cases.proofs.WeakKey.{weak_exists}
use Rattle.judge_cases.proofs.levels.row_at.Goals as goal

pub returns-in-Some-clause-exists : goal.returns-in-Some-clause-exists
returns-in-Some-clause-exists c =
    let gate = c.timer_gate-gate.result.0 in
    let there : gate < length c.args.rows.now =
    omega (arith, c.requires.rows.count, c.timer_gate-gate.ensures.exists) in
    let has : slice_get c.args.rows.now gate ≡ Some (Some c.in-Some.row) =
    slice_get-get_or c.args.rows.now gate None there ∙ ap Some c.in-Some.is in
    (c.requires.rows.some gate c.in-Some.row has).0

pub returns-in-Some-clause-is : goal.returns-in-Some-clause-is
returns-in-Some-clause-is c =
    let line = c.args.compiled.now.line.now in
    let net = c.args.compiled.now.net.now in
    let gate = c.timer_gate-gate.result.0 in
    let there : gate < length c.args.rows.now =
    omega (arith, c.requires.rows.count, c.timer_gate-gate.ensures.exists) in
    let has : slice_get c.args.rows.now gate ≡ Some (Some c.in-Some.row) =
    slice_get-get_or c.args.rows.now gate None there ∙ ap Some c.in-Some.is in
    row_is line net c.args.rows.now
    (λ i j li lj e. one_gate net.gates c.gates_stand_for_their_trees.ensures.kinds
    c.args.compiled.now.of_line.laws.gates i j li lj e) c.requires.rows c.args.terminal
    (weak_exists line c.args.terminal c.requires.weak) c.requires.weak c.args.throughout gate
    c.timer_gate-gate.ensures.is c.in-Some.row has

pub returns-in-None-clause-exists : goal.returns-in-None-clause-exists
returns-in-None-clause-exists c =
    let line = c.args.compiled.now.line.now in
    let net = c.args.compiled.now.net.now in
    let gate = c.timer_gate-gate.result.0 in
    let there : gate < length c.args.rows.now =
    omega (arith, c.requires.rows.count, c.timer_gate-gate.ensures.exists) in
    let none : slice_get c.args.rows.now gate ≡ Some None =
    slice_get-get_or c.args.rows.now gate None there ∙ ap Some c.in-None.is in
    absurd (no_row line net c.args.rows.now
    (λ i j li lj e. one_gate net.gates c.gates_stand_for_their_trees.ensures.kinds
    c.args.compiled.now.of_line.laws.gates i j li lj e) c.requires.rows c.args.terminal
    (weak_exists line c.args.terminal c.requires.weak) c.requires.weak c.args.throughout gate
    c.timer_gate-gate.ensures.is none)

pub returns-in-None-clause-is : goal.returns-in-None-clause-is
returns-in-None-clause-is c =
    let line = c.args.compiled.now.line.now in
    let net = c.args.compiled.now.net.now in
    let gate = c.timer_gate-gate.result.0 in
    let there : gate < length c.args.rows.now =
    omega (arith, c.requires.rows.count, c.timer_gate-gate.ensures.exists) in
    let none : slice_get c.args.rows.now gate ≡ Some None =
    slice_get-get_or c.args.rows.now gate None there ∙ ap Some c.in-None.is in
    absurd (no_row line net c.args.rows.now
    (λ i j li lj e. one_gate net.gates c.gates_stand_for_their_trees.ensures.kinds
    c.args.compiled.now.of_line.laws.gates i j li lj e) c.requires.rows c.args.terminal
    (weak_exists line c.args.terminal c.requires.weak) c.requires.weak c.args.throughout gate
    c.timer_gate-gate.ensures.is none)
