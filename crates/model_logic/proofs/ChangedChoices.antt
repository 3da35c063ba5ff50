-- The choices inside a line with another interval for one parameter that is no delay.
use Rattle.std.proofs.Common.{◌<◌, ℕ, refl, sym, subst, inl, inr}
use Rattle.std.proofs.lemmas.Bool.{cases_eq}
use Rattle.std.specs.Prelude.{IsTrue}
use Rattle.model_history.specs.Rails.{Ends}
use Rattle.model_line.specs.Parameters.{param_count, is_delay}
use Rattle.model_line.specs.SameCountLaws.{channels_same, params_same}
use Rattle.model_line.specs.WithBounds.{IsWithBounds}
use Rattle.model_line.specs.{declared.line.Line.Line, SetBounds.SameButParams}
use Rattle.model_logic.specs.Choice.{Choice, Box, IsIn, IsWithin, IsInside, declared_box}
use Rattle.model_logic.specs.Boxes.{box_with, IsSameBox}
use Rattle.model_logic.proofs.ChangedBox.{number_changed}
use Rattle.model_logic.specs.BoxLaws.{ends_with-here, ends_with-elsewhere}

-- a choice in a box whose number lies in the new interval is in the box with that interval
pub within_with : (line : Line) (choice : Choice) (box : Box) (param : ℕ) (new : Ends)
    → IsWithin line choice box → IsIn (choice.number param) new
    → IsWithin line choice (box_with box param new)
within_with line choice box param new within here = record {
  numbers = λ i lt. elim (cases_eq i param) [
    | inl same ↦
        subst (λ (e : Ends). IsIn (choice.number i) e)
        (sym (ends_with-here box.ends param new i same))
        (subst (λ (j : ℕ). IsIn (choice.number j) new) (sym same) here)
    | inr apart ↦
        subst (λ (e : Ends). IsIn (choice.number i) e)
        (sym (ends_with-elsewhere box.ends param new i apart)) (within.numbers i lt)
  ];
  delays = within.delays;
}

-- a choice in the box with the new interval has its number there
pub number_in : (line : Line) (choice : Choice) (box : Box) (param : ℕ) (new : Ends)
    → param < param_count line → IsWithin line choice (box_with box param new)
    → IsIn (choice.number param) new
number_in line choice box param new here within =
    subst (λ (e : Ends). IsIn (choice.number param) e)
    (ends_with-here box.ends param new param refl) (within.numbers param here)

pub same_box_within : (line : Line) (choice : Choice) (a b : Box) → IsSameBox line a b
    → IsWithin line choice b → IsWithin line choice a
same_box_within line choice a b same within = record {
  numbers = λ i lt. subst (λ (e : Ends). IsIn (choice.number i) e) (sym (same.numbers i lt))
      (within.numbers i lt);
  delays = λ c t lt early.
      subst (λ (e : Ends). IsIn (choice.delay c t) e) (sym (same.delays c t lt early))
      (within.delays c t lt early);
}

-- lines that agree in all but their intervals have the same choices within a box
pub same_line_within : (old new : Line) → SameButParams old new → (choice : Choice) (box : Box)
    → IsWithin old choice box → IsWithin new choice box
same_line_within old new same choice box within = record {
  numbers = λ i lt. within.numbers i (subst (λ (n : ℕ). i < n) (params_same old new same) lt);
  delays = λ c t lt early.
      within.delays c t (subst (λ (n : ℕ). c < n) (channels_same old new same) lt)
      (subst (λ (n : ℕ). t < n) same.horizon early);
}

-- a choice inside whose number lies in the new interval is inside the changed line
pub inside_changed : (line other : Line) (param least greatest : ℕ) → param < param_count line
    → ¬ (IsTrue (is_delay line param)) → IsWithBounds line param least greatest other
    → (choice : Choice) → IsInside line choice
    → IsIn (choice.number param) (record { least = least; greatest = greatest })
    → IsInside other choice
inside_changed line other param least greatest here no_delay is choice inside number =
    same_line_within line other is.rest choice (declared_box other)
    (same_box_within line choice (declared_box other)
    (box_with (declared_box line) param (record { least = least; greatest = greatest }))
    (number_changed line other param least greatest here is no_delay)
    (within_with line choice (declared_box line) param
    (record { least = least; greatest = greatest }) inside number))
