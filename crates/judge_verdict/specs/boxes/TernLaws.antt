-- What must be may be, in each of 64 lanes.
use Rattle.std.specs.Prelude.{◌||◌, ℕ, Bool, true, false, refl}
use Rattle.model_history.specs.Rails.{IsSound}
use Rattle.run_signal.specs.Bits.{bit_on}
use Rattle.judge_verdict.specs.declared.boxes.terns.Terns64.{Terns64}
use Rattle.judge_verdict.specs.boxes.Terns.{terns_rails}

first_of_both : (a b : Bool) → IsSound (record { must = a; may = a || b })
first_of_both true b on = refl
first_of_both false b on = absurd (cc)

-- what must be may be
pub terns_sound : (x : Terns64) (lane : ℕ) → IsSound (terns_rails x lane)
terns_sound x lane = first_of_both (bit_on x.must lane) (bit_on x.may lane)
