use Rattle.std.proofs.Common.{◌≡◌, ℕ, List, IfOk, subst}
use Rattle.std.specs.Prelude.{codes, decimal}
use Rattle.draw_run.specs.{layout.Legend.some_said, layout.Words.said}
use Rattle.draw_run.proofs.layout_lemmas.Lists.{seven_joined}
use Rattle.draw_run.proofs.layout.legend.some_words.Goals as goal

pub returns : goal.returns
unfolding some_said
returns c =
    subst (λ (l : List ℕ). IfOk c.word-4.result (λ all. said all ≡ l))
    (seven_joined (said c.args.words) (codes "Ticks ") (decimal c.args.window.first)
    (codes " to ") (decimal c.args.window.last) (codes " of 0 to ") (decimal c.args.last)
    (codes " are shown; nothing changes at the others.") _ _ _ _ _ _
    c.in_ok-word.ensures c.in_ok-number.ensures c.in_ok-word-2.ensures c.in_ok-number-2.ensures
    c.in_ok-word-3.ensures c.in_ok-number-3.ensures)
    c.word-4.ensures
