-- A parameter is told by its name.
use Rattle.std.proofs.Common.{◌≡◌, ◌<◌, ℕ, inl, inr, sym}
use Rattle.std.proofs.lemmas.Bool.{cases_order}
use Rattle.model_line.specs.{declared.line.Line.Line, Parameters.param_count}
use Rattle.model_line.specs.NamesByNumber.{parameter_name}
use Rattle.model_names.specs.ParamNamesApart.{ParamNamesApart}

pub one_param : (line : Line) → ParamNamesApart line → (p q : ℕ) → p < param_count line
    → q < param_count line → parameter_name line p ≡ parameter_name line q → p ≡ q
one_param line names p q here there same =
    elim (cases_order p q) [
      | inl is ↦ is
      | inr (inl less) ↦ absurd (names.differ p q less there same)
      | inr (inr more) ↦ absurd (names.differ q p more here (sym same))
    ]
