use Rattle.std.proofs.Common.{◌≡◌, Some}
use Rattle.std.specs.Prelude.{slice_get}
use Rattle.judge_margins.specs.declared.margins.bracket.Bracket.{Bracket}
use Rattle.judge_margins.specs.declared.margins.end.End.{End}
use Rattle.judge_margins.specs.margins.Brackets.{settled}
use Rattle.judge_margins.specs.margins.Each.{OneForEach}
use Rattle.judge_margins.proofs.margins.lists.settle.Given as goal

abbrev pub invariant-loop-place : goal.invariant-loop-place
invariant-loop-place l =
    OneForEach (λ place (old new : End). (b : Bracket) → slice_get l.brackets place ≡ Some b
    → new ≡ settled b old)
    l.ends l.settled.items l.place
