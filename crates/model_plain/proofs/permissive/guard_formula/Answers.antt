use Rattle.std.proofs.Common.{◌∙◌, sym, []}
use Rattle.model_logic.specs.Permissive.{reversal_guard}
use Rattle.model_plain.specs.FormulaLaws.{named_timed}
use Rattle.model_plain.proofs.permissive.guard_formula.Goals as goal

pub returns-then-is_terminal_guarded-clause-is : goal.returns-then-is_terminal_guarded-clause-is
unfolding reversal_guard
returns-then-is_terminal_guarded-clause-is c parts =
    rw (sym c.is_terminal_guarded.ensures ∙ c.if-is_terminal_guarded.true)
    (rw c.terminal_time-dropout.ensures.is at (rw c.terminal_time-pickup.ensures.is at
    (c.timer.ensures parts _ (c.element_formula-reverse.ensures.is parts))))

pub returns-then-is_terminal_guarded-clause-named :
    goal.returns-then-is_terminal_guarded-clause-named
returns-then-is_terminal_guarded-clause-named c =
    named_timed c.args.line.now c.element_formula-reverse.result c.timer.result
    c.terminal_time-pickup.result c.terminal_time-dropout.result
    c.terminal_time-pickup.ensures.has c.terminal_time-dropout.ensures.has
    c.element_formula-reverse.ensures.named (c.timer.ensures [])
