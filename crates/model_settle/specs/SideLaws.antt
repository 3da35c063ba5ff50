-- The number at an end of an interval lies in it.
use Rattle.std.proofs.Common.{◌≤◌, arith}
use Rattle.model_history.specs.Rails.{Ends}
use Rattle.model_logic.specs.Choice.{IsIn}
use Rattle.model_settle.specs.Sides.{End, Least, Greatest, number_at}

pub number_within : (end : End) (ends : Ends) → ends.least ≤ ends.greatest
    → IsIn (number_at end ends) ends
number_within Least ends ordered = record { least = omega arith; greatest = ordered }
number_within Greatest ends ordered = record { least = ordered; greatest = omega arith }
