use Rattle.std.proofs.Common.{◌≡◌, ℕ, length, subst, sym, ◌∙◌, ap, arith}
use Rattle.std.specs.List.{All}
use Rattle.model_history.specs.Each.{each_below}
use Rattle.model_line.specs.Parameters.{terminal_count}
use Rattle.draw_run.specs.diagram.Traces.{IsTraceOf, traces_at}
use Rattle.draw_run.proofs.diagram_lemmas.TraceLaws.{traces_are_of_line}
use Rattle.draw_run.proofs.diagram.trace.traces.Goals as goal

pub returns-clause-of_line : goal.returns-clause-of_line
returns-clause-of_line c =
    let line = c.args.compiled.now.line.now in
    let gates = c.args.compiled.now.net.now.gates in
    let count : c.loop-k.k ≡ terminal_count line =
    omega (arith, c.len-k-end.ensures, c.loop-k-test.false, c.loop-k.auto.k-end) in
    subst (All (IsTraceOf line (length gates)))
    (sym (c.loop-k.invariant ∙ ap (λ (n : ℕ). each_below n (traces_at line gates)) count))
    (traces_are_of_line line gates c.the_first_tick_is_the_least.ensures.some)
