-- The declared box with another greatest number for one parameter has its delays from one tick on.
use Rattle.std.proofs.Common.{◌≡◌, ◌≤◌, ℕ, Bool, true, false, refl, subst}
use Rattle.std.proofs.lemmas.Bool.{eqb-true}
use Rattle.std.specs.Prelude.{◌==◌, cond}
use Rattle.model_history.specs.Rails.{Ends}
use Rattle.model_line.specs.Parameters.{declared_ends, delay_param}
use Rattle.model_line.specs.declared.line.Line.{Line}
use Rattle.model_logic.specs.{Boxes.ends_with, Choice.LeastFromOne}
use Rattle.judge_report.specs.Raised.{raised}

by_bool : (b : Bool) (x y : Ends) → (b ≡ true → 1 ≤ x.least) → 1 ≤ y.least
    → 1 ≤ (cond b x y).least
by_bool true x y one other = one refl
by_bool false x y one other = other

module _ (line : Line) (param : ℕ) where
  late_at : (v i : ℕ) → 1 ≤ (declared_ends line i).least
      → 1 ≤ (ends_with (declared_ends line) param
      (record { least = (declared_ends line param).least; greatest = v }) i).least
  late_at v i late =
      by_bool (i == param) (record { least = (declared_ends line param).least; greatest = v })
      (declared_ends line i)
      (λ told. subst (λ (n : ℕ). 1 ≤ (declared_ends line n).least) (eqb-true i param told) late)
      late

  pub raised_late : (v : ℕ) → LeastFromOne line (raised line param v)
  raised_late v c t lt soon = late_at v (delay_param line c) (line.delays_from_one c lt)
