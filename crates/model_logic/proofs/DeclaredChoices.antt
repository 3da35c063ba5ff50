-- The declared intervals: a choice inside, and delays of at least 1.
use Rattle.std.proofs.Common.{◌≡◌, ℕ, ◌<◌, ◌≤◌, length, get_or, arith}
use Rattle.std.proofs.lemmas.List.{length-map}
use Rattle.model_line.specs.Parameters.{param_count, delay_param, declared_ends}
use Rattle.model_line.specs.DelayLaws.{delay_within}
use Rattle.model_line.specs.{declared.line.Line.Line, Intervals.leasts}
use Rattle.model_logic.specs.Choice.{Choice, IsIn, IsInside, DelaysFromOne, LeastFromOne}
use Rattle.model_logic.specs.Choice.{declared_box, steady_choice}

-- the least number of an interval is in it
least_in : (line : Line) (i : ℕ) → i < param_count line
    → IsIn (get_or (leasts line.params.items) i 0) (declared_ends line i)
least_in line i lt =
    let n : length (leasts line.params.items) ≡ param_count line = simp length-map in
    let below : i < length (leasts line.params.items) = omega arith in
    record { least = omega arith; greatest = (line.ends_in_range i below).0 }

-- the choice of the least numbers is inside
pub leasts_inside : (line : Line)
    → IsInside line (steady_choice line (leasts line.params.items))
unfolding declared_box steady_choice
leasts_inside line = record {
  numbers = least_in line;
  delays = λ c t lt early. least_in line (delay_param line c) (delay_within line c lt);
}

-- the declared delays are at least 1
pub declared_from_one : (line : Line) → LeastFromOne line (declared_box line)
unfolding declared_box
declared_from_one line c t lt early = line.delays_from_one c lt

-- and so are those of each choice inside
pub inside_from_one : (line : Line) (choice : Choice) → IsInside line choice
    → DelaysFromOne line choice
unfolding declared_box
inside_from_one line choice inside c t lt early =
    let least : 1 ≤ (declared_ends line (delay_param line c)).least = line.delays_from_one c lt in
    let within : IsIn (choice.delay c t) (declared_ends line (delay_param line c)) =
    inside.delays c t lt early in
    let low : (declared_ends line (delay_param line c)).least ≤ choice.delay c t = within.least in
    omega arith
