-- The boxes with one end of one interval moved outward.
use Rattle.std.proofs.Common.{◌≡◌, ◌≤◌, ◌<◌, ◌*◌, ◌/◌, ℕ, Bool, true, sym, ap}
use Rattle.std.proofs.Common.{subst, arith, inl, inr, cond}
use Rattle.std.proofs.lemmas.Bool.{cases_eq}
use Rattle.model_history.specs.Rails.{Ends, IsPartOf}
use Rattle.model_line.specs.Parameters.{param_count, delay_param, declared_ends}
use Rattle.model_line.specs.Parameters.{is_delay}
use Rattle.model_line.specs.declared.line.Line.{Line}
use Rattle.model_logic.specs.Choice.{IsBoxWithin, LeastFromOne, declared_box}
use Rattle.model_logic.specs.Boxes.{ends_with}
use Rattle.model_logic.specs.BoxLaws.{ends_with-here, ends_with-elsewhere}
use Rattle.judge_margins.specs.{margins.Known.Known, declared.margins.end.Side.Side}
use Rattle.judge_margins.specs.declared.margins.end.Side.TheVariants.{Above, Below}
use Rattle.judge_margins.specs.margins.Widened.{moved, first_number, room, widened}

moved_part : (ends : Ends) (side : Side) (m n : ℕ) → m ≤ n
    → IsPartOf (moved ends side m) (moved ends side n)
moved_part ends Above m n le = record { least = omega arith; greatest = omega arith }
moved_part ends Below m n le = record { least = omega arith; greatest = omega arith }

unmoved_part : (ends : Ends) (side : Side) → IsPartOf (moved ends side 0) ends
unmoved_part ends Above = record { least = omega arith; greatest = omega arith }
unmoved_part ends Below = record { least = omega arith; greatest = omega arith }

-- the box moved less lies within
part_at : (line : Line) (param : ℕ) (side : Side) (m n i : ℕ) → m ≤ n
    → IsPartOf (ends_with (declared_ends line) param (moved (declared_ends line param) side m) i)
    (ends_with (declared_ends line) param (moved (declared_ends line param) side n) i)
part_at line param side m n i le = elim (cases_eq i param) [
  | inl same ↦
      subst (λ (e : Ends). IsPartOf e
      (ends_with (declared_ends line) param (moved (declared_ends line param) side n) i))
      (sym (ends_with-here (declared_ends line) param (moved (declared_ends line param) side m) i same))
      (subst (λ (e : Ends). IsPartOf (moved (declared_ends line param) side m) e)
      (sym (ends_with-here (declared_ends line) param (moved (declared_ends line param) side n) i same))
      (moved_part (declared_ends line param) side m n le))
  | inr apart ↦
      subst (λ (e : Ends). IsPartOf e
      (ends_with (declared_ends line) param (moved (declared_ends line param) side n) i))
      (sym (ends_with-elsewhere (declared_ends line) param (moved (declared_ends line param) side m)
      i apart))
      (subst (λ (e : Ends). IsPartOf (declared_ends line i) e)
      (sym (ends_with-elsewhere (declared_ends line) param (moved (declared_ends line param) side n)
      i apart))
      (record { least = omega arith; greatest = omega arith }))
]

pub widened_within : (line : Line) (param : ℕ) (side : Side) (m n : ℕ) → m ≤ n
    → IsBoxWithin line (widened line param side m) (widened line param side n)
widened_within line param side m n le = record {
  numbers = λ i lt. part_at line param side m n i le;
  delays = λ c t lt early. part_at line param side m n (delay_param line c) le;
}

-- unmoved it is the declared box
unmoved_at : (line : Line) (param : ℕ) (side : Side) (i : ℕ)
    → IsPartOf (ends_with (declared_ends line) param (moved (declared_ends line param) side 0) i)
    (declared_ends line i)
unmoved_at line param side i = elim (cases_eq i param) [
  | inl same ↦
      subst (λ (e : Ends). IsPartOf e (declared_ends line i))
      (sym (ends_with-here (declared_ends line) param (moved (declared_ends line param) side 0) i same))
      (subst (λ (j : ℕ). IsPartOf (moved (declared_ends line param) side 0) (declared_ends line j))
      (sym same) (unmoved_part (declared_ends line param) side))
  | inr apart ↦
      subst (λ (e : Ends). IsPartOf e (declared_ends line i))
      (sym (ends_with-elsewhere (declared_ends line) param (moved (declared_ends line param) side 0)
      i apart))
      (record { least = omega arith; greatest = omega arith })
]

pub unmoved_within : (line : Line) (param : ℕ) (side : Side)
    → IsBoxWithin line (widened line param side 0) (declared_box line)
unfolding declared_box
unmoved_within line param side = record {
  numbers = λ i lt. unmoved_at line param side i;
  delays = λ c t lt early. unmoved_at line param side (delay_param line c);
}

moved_from_one : (line : Line) (param : ℕ) (side : Side) (n : ℕ)
    → is_delay line param ≡ true → 1 ≤ (declared_ends line param).least
    → n ≤ room line param side → 1 ≤ (moved (declared_ends line param) side n).least
moved_from_one line param Above n is low le = low
moved_from_one line param Below n is low le =
    let first : first_number line param ≡ 1 = ap (λ (b : Bool). cond b 1 0) is in
    omega (arith, low, le, first)

pub room_small : (known : Known) (line : Line) (param : ℕ) (side : Side)
    → param < param_count line → room line param side ≤ 4000
room_small known line param Above lt = omega arith
room_small known line param Below lt =
    let ordered = known.ordered.ordered line param lt in
    let small = known.ordered.within line param lt in
    omega (arith, ordered, small)

pub within_params : (line : Line) (place : ℕ) → place < 2 * param_count line
    → place / 2 < param_count line
within_params line place lt = omega arith

module _ (known : Known) (line : Line) (param : ℕ) (side : Side) where
  pub from_one : (n : ℕ) → n ≤ room line param side
      → LeastFromOne line (widened line param side n)
  from_one n le c t lt early =
      let delay = delay_param line c in
      let new = moved (declared_ends line param) side n in
      let low : 1 ≤ (declared_ends line delay).least = line.delays_from_one c lt in
      elim (cases_eq delay param) [
        | inl same ↦
            subst (λ (e : Ends). 1 ≤ e.least)
            (sym (ends_with-here (declared_ends line) param new delay same))
            (moved_from_one line param side n
            (subst (λ (i : ℕ). is_delay line i ≡ true) same (known.delays.told line c lt))
            (subst (λ (i : ℕ). 1 ≤ (declared_ends line i).least) same low) le)
        | inr apart ↦
            subst (λ (e : Ends). 1 ≤ e.least)
            (sym (ends_with-elsewhere (declared_ends line) param new delay apart)) low
      ]
