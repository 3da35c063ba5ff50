use Rattle.std.proofs.Common.{◌≡◌}
use Rattle.judge_margins.specs.declared.margins.bracket.Bracket.{Bracket}
use Rattle.judge_margins.specs.declared.margins.end.End.{End}
use Rattle.judge_margins.specs.margins.Brackets.{fresh_bracket}
use Rattle.judge_margins.specs.margins.Each.{OneForEach}
use Rattle.judge_margins.proofs.margins.lists.opened.Given as goal

abbrev pub invariant-loop-place : goal.invariant-loop-place
invariant-loop-place l =
    OneForEach (λ _ (end : End) (b : Bracket). b ≡ fresh_bracket end.slack)
    l.ends l.brackets.items l.place
