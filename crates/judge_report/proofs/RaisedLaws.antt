-- The boxes up to a number of one parameter.
use Rattle.std.proofs.Common.{◌≡◌, ◌≤◌, ℕ, sym, ◌∙◌, ap, subst, arith, inl, inr}
use Rattle.std.proofs.lemmas.Bool.{cases_eq}
use Rattle.model_history.specs.Rails.{Ends, IsPartOf}
use Rattle.model_line.specs.Parameters.{delay_param, declared_ends}
use Rattle.model_line.specs.declared.line.Line.{Line}
use Rattle.model_logic.specs.Choice.{IsBoxWithin, LeastFromOne}
use Rattle.model_logic.specs.Boxes.{ends_with}
use Rattle.model_logic.specs.BoxLaws.{ends_with-here, ends_with-elsewhere}
use Rattle.judge_report.specs.Raised.{raised}

abbrev up_to : Line → ℕ → ℕ → Ends
up_to line param v = record { least = (declared_ends line param).least; greatest = v }

-- the least numbers are those that are declared
least_kept : (line : Line) (param v i : ℕ)
    → (ends_with (declared_ends line) param (up_to line param v) i).least
    ≡ (declared_ends line i).least
least_kept line param v i = elim (cases_eq i param) [
  | inl same ↦
      ap (λ (e : Ends). e.least)
      (ends_with-here (declared_ends line) param (up_to line param v) i same)
      ∙ ap (λ (j : ℕ). (declared_ends line j).least) (sym same)
  | inr apart ↦
      ap (λ (e : Ends). e.least)
      (ends_with-elsewhere (declared_ends line) param (up_to line param v) i apart)
]

pub raised_from_one : (line : Line) (param v : ℕ) → LeastFromOne line (raised line param v)
raised_from_one line param v c t lt early =
    subst (λ (n : ℕ). 1 ≤ n) (sym (least_kept line param v (delay_param line c)))
    (line.delays_from_one c lt)

part_up_to : (line : Line) (param u v i : ℕ) → u ≤ v
    → IsPartOf (ends_with (declared_ends line) param (up_to line param u) i)
    (ends_with (declared_ends line) param (up_to line param v) i)
part_up_to line param u v i le = elim (cases_eq i param) [
  | inl same ↦
      subst (λ (e : Ends). IsPartOf e
      (ends_with (declared_ends line) param (up_to line param v) i))
      (sym (ends_with-here (declared_ends line) param (up_to line param u) i same))
      (subst (λ (e : Ends). IsPartOf (up_to line param u) e)
      (sym (ends_with-here (declared_ends line) param (up_to line param v) i same))
      (record { least = omega arith; greatest = le }))
  | inr apart ↦
      subst (λ (e : Ends). IsPartOf e
      (ends_with (declared_ends line) param (up_to line param v) i))
      (sym (ends_with-elsewhere (declared_ends line) param (up_to line param u) i apart))
      (subst (λ (e : Ends). IsPartOf (declared_ends line i) e)
      (sym (ends_with-elsewhere (declared_ends line) param (up_to line param v) i apart))
      (record { least = omega arith; greatest = omega arith }))
]

-- the box up to a smaller number lies within
pub raised_within : (line : Line) (param u v : ℕ) → u ≤ v
    → IsBoxWithin line (raised line param u) (raised line param v)
raised_within line param u v le = record {
  numbers = λ i lt. part_up_to line param u v i le;
  delays = λ c t lt early. part_up_to line param u v (delay_param line c) le;
}
