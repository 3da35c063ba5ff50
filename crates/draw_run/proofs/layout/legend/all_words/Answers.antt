use Rattle.std.proofs.Common.{◌≡◌, ℕ, List, IfOk, subst}
use Rattle.std.specs.Prelude.{codes, decimal}
use Rattle.draw_run.specs.{layout.Legend.all_said, layout.Words.said}
use Rattle.draw_run.proofs.layout_lemmas.Lists.{three_joined}
use Rattle.draw_run.proofs.layout.legend.all_words.Goals as goal

pub returns : goal.returns
unfolding all_said
returns c =
    subst (λ (l : List ℕ). IfOk c.word-2.result (λ all. said all ≡ l))
    (three_joined (said c.args.words) (codes "All ticks are shown, 0 to ") (decimal c.args.last)
    (codes ".") _ _ c.in_ok-word.ensures c.in_ok-number.ensures)
    c.word-2.ensures
