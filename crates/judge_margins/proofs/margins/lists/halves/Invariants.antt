use Rattle.std.proofs.Common.{◌≡◌, ℕ, Option, Some}
use Rattle.std.specs.Prelude.{slice_get}
use Rattle.judge_margins.specs.declared.margins.bracket.Bracket.{Bracket}
use Rattle.judge_margins.specs.margins.Brackets.{IsHalf}
use Rattle.judge_margins.specs.margins.Each.{OneForEach}
use Rattle.judge_margins.proofs.margins.lists.halves.Given as goal

abbrev pub invariant-loop-place : goal.invariant-loop-place
invariant-loop-place l =
    OneForEach (λ place (old new : Bracket). (slot : Option ℕ) → slice_get l.slots place ≡ Some slot
    → IsHalf l.whole l.told old slot new)
    l.brackets l.halves.items l.place
