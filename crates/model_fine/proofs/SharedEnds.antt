-- Each fine choice of a box lies in one of two halves that share their end.
use Rattle.std.proofs.Common.{◌*◌, ◌<◌, ◌⊎◌, ℕ, inl, inr, sym, subst, arith}
use Rattle.std.proofs.Common.{⊎_elim}
use Rattle.std.proofs.lemmas.Bool.{cases_lt, cases_eq}
use Rattle.model_history.specs.Rails.{Ends}
use Rattle.model_line.specs.{declared.line.Line.Line, Parameters.param_count}
use Rattle.model_logic.specs.Choice.{Choice, Box, IsIn}
use Rattle.model_logic.specs.Boxes.{box_with, lower_half}
use Rattle.model_logic.specs.BoxLaws.{ends_with-here, ends_with-elsewhere}
use Rattle.model_settle.specs.Parts.{upper_from}
use Rattle.model_fine.specs.{Cut.cut_ends, Fine.IsFineWithin}

-- a choice whose number lies in the new interval lies in the box with it
within_new : (n : ℕ) (line : Line) (choice : Choice) (box : Box) (param : ℕ) (new : Ends)
    → IsFineWithin n line choice box → (param < param_count line
    → IsIn (choice.number param) (cut_ends n new))
    → IsFineWithin n line choice (box_with box param new)
within_new n line choice box param new within lies = record {
  numbers = λ i lt.
      ⊎_elim
      (λ here. subst (λ (e : Ends). IsIn (choice.number i) (cut_ends n e))
      (sym (ends_with-here box.ends param new i here))
      (subst (λ (j : ℕ). IsIn (choice.number j) (cut_ends n new)) (sym here)
      (lies (subst (λ (j : ℕ). j < param_count line) here lt))))
      (λ other. subst (λ (e : Ends). IsIn (choice.number i) (cut_ends n e))
      (sym (ends_with-elsewhere box.ends param new i other)) (within.numbers i lt))
      (cases_eq i param);
  delays = within.delays;
}

pub shared_halves : (n : ℕ) (line : Line) (choice : Choice) (box : Box) (param mid : ℕ)
    → IsFineWithin n line choice box
    → IsFineWithin n line choice (lower_half box param mid)
    ⊎ IsFineWithin n line choice (upper_from box param mid)
shared_halves n line choice box param mid within =
    ⊎_elim
    (λ below. inl (within_new n line choice box param
    (record { least = (box.ends param).least; greatest = mid }) within
    (λ lt. record { least = (within.numbers param lt).least; greatest = omega (arith, below) })))
    (λ above. inr (within_new n line choice box param
    (record { least = mid; greatest = (box.ends param).greatest }) within
    (λ lt. record { least = above; greatest = (within.numbers param lt).greatest })))
    (cases_lt (choice.number param) (mid * n))
