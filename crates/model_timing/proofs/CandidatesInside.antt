-- Each candidate is inside.
use Rattle.std.proofs.Common.{ℕ, ◌+◌, ◌-◌, ◌<◌, ◌==◌, Bool, true, false, cond, length, ◌∙◌, sym}
use Rattle.std.proofs.Common.{subst, arith}
use Rattle.std.proofs.lemmas.List.{length-map}
use Rattle.std.proofs.lemmas.List.FromFn.{get_or-map-range_with_len, length-range_with_len}
use Rattle.std.proofs.lemmas.List.Elements.{All-nil}
use Rattle.std.specs.Prelude.{nat_le}
use Rattle.std.specs.List.{range_with_len}
use Rattle.model_line.specs.Parameters.{param_count, declared_ends}
use Rattle.model_line.specs.{declared.line.Line.Line, Intervals.leasts}
use Rattle.model_logic.specs.Choice.{IsIn}
use Rattle.model_timing.specs.Inside.{IsStepInside, IsTimingInside}
use Rattle.model_timing.specs.Candidates.{free_count, is_free_number, candidate_value, candidate}

either : (P : ℕ → Type 0) (b : Bool) (x y : ℕ) → P x → P y → P (cond b x y)
either P true x y p q = p
either P false x y p q = q

-- each number of a candidate is an end of its interval
value_inside : (line : Line) (index i : ℕ) → i < param_count line
    → IsIn (candidate_value line index i) (declared_ends line i)
unfolding candidate_value
value_inside line index i inside =
    let P : ℕ → Type 0 = λ n. IsIn n (declared_ends line i) in
    let low : ℕ = (declared_ends line i).least in
    let high : ℕ = (declared_ends line i).greatest in
    let below : i < length (leasts line.params.items) =
    omega (arith, length-map line.params.items (λ p. p.least)) in
    let ordered = (line.ends_in_range i below).0 in
    let p_low : P low = record { least = omega arith; greatest = ordered } in
    let p_high : P high = record { least = ordered; greatest = omega arith } in
    let m : ℕ = free_count line in
    let one_high : Bool = is_free_number line (index - 1) i in
    let one_low : Bool = is_free_number line (index - 1 - m) i in
    let last : ℕ = cond (nat_le index (1 + m)) (cond one_high high low) (cond one_low low high) in
    either P (index == 0) low (cond (index == 1) high last) p_low
    (either P (index == 1) high last p_high
    (either P (nat_le index (1 + m)) (cond one_high high low) (cond one_low low high)
    (either P one_high high low p_high p_low) (either P one_low low high p_low p_high)))

pub candidate_inside : (line : Line) (index : ℕ) → IsTimingInside line (candidate line index)
candidate_inside line index = record {
  count = length-map (range_with_len 0 (param_count line)) (candidate_value line index)
      ∙ length-range_with_len 0 (param_count line);
  values = λ i inside.
      subst (λ (n : ℕ). IsIn n (declared_ends line i))
      (sym (get_or-map-range_with_len (candidate_value line index) 0 (param_count line) i i 0 inside
      (omega arith)))
      (value_inside line index i inside);
  steps = All-nil (IsStepInside line);
}
