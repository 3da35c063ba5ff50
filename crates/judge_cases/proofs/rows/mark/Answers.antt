use Rattle.std.proofs.Common.{◌≡◌, ◌+◌, ◌*◌, ◌∙◌, ℕ, sym, subst, arith}
use Rattle.std.specs.Prelude.{IsTrue}
use Rattle.model_logic.specs.Elements.{is_weak}
use Rattle.judge_cases.specs.Rows.{AreRows}
use Rattle.judge_cases.proofs.RowLaws.{rows_same, first_terminal, second_terminal, first_tree}
use Rattle.judge_cases.proofs.RowLaws.{second_tree}
use Rattle.judge_cases.proofs.rows.mark.Goals as goal

pub mark_gate-requires-clause-weak : goal.mark_gate-requires-clause-weak
mark_gate-requires-clause-weak c =
    subst (λ (m : ℕ). IsTrue (is_weak c.args.compiled.now.line.now m))
    (sym (first_terminal c.args.terminal))
    (sym c.is_terminal_weak.ensures ∙ c.if-is_terminal_weak.true)

pub mark_gate-requires-clause-stands : goal.mark_gate-requires-clause-stands
mark_gate-requires-clause-stands c =
    c.wanted_gate-wanted.ensures.is
    ∙ sym (first_tree c.args.compiled.now.line.now c.args.terminal)

pub mark_gate-requires-then-is_terminal_weak-clause-weak : goal.mark_gate-requires-then-is_terminal_weak-clause-weak
mark_gate-requires-then-is_terminal_weak-clause-weak c =
    subst (λ (m : ℕ). IsTrue (is_weak c.args.compiled.now.line.now m))
    (sym (second_terminal c.args.terminal))
    (sym c.is_terminal_weak.ensures ∙ c.if-is_terminal_weak.true)

pub mark_gate-requires-then-is_terminal_weak-clause-stands : goal.mark_gate-requires-then-is_terminal_weak-clause-stands
mark_gate-requires-then-is_terminal_weak-clause-stands c =
    c.over_gate-over.ensures.is
    ∙ sym (second_tree c.args.compiled.now.line.now c.args.terminal)

pub returns-then-is_terminal_weak : goal.returns-then-is_terminal_weak
returns-then-is_terminal_weak c =
    let next : c.args.terminal * 2 + 1 + 1 ≡ (c.args.terminal + 1) * 2 = omega arith in
    subst (λ (n : ℕ). AreRows c.args.compiled.now.line.now c.args.compiled.now.net.now n
    c.mark_gate-then-is_terminal_weak.new.rows.items) next c.mark_gate-then-is_terminal_weak.ensures

pub returns-else-is_terminal_weak : goal.returns-else-is_terminal_weak
returns-else-is_terminal_weak c =
    rows_same c.args.compiled.now.line.now c.args.compiled.now.net.now c.args.terminal
    c.args.rows.now.items (sym c.is_terminal_weak.ensures ∙ c.if-is_terminal_weak.false)
    c.requires.rows
