use Rattle.std.proofs.Common.{◌≡◌, ◌++◌, ◌∙◌, ℕ, List, IfOk, ap, append_assoc, subst}
use Rattle.std.specs.Prelude.{codes, decimal}
use Rattle.draw_run.specs.{layout.Rows.first_mark_said, layout.Words.said}
use Rattle.draw_run.proofs.layout.row.first_mark_said.Goals as goal

pub returns : goal.returns
unfolding first_mark_said
returns c =
    let word : List ℕ = codes "; channel delay changes at " in
    subst (λ (l : List ℕ). IfOk c.tick.result (λ all. said all ≡ l))
    (ap (λ (l : List ℕ). l ++ decimal c.args.t) c.in_ok-word.ensures
    ∙ append_assoc (said c.args.words) word (decimal c.args.t))
    c.tick.ensures
