-- A run at a timing has the value of each gate's tree in the history at the timing's choice.
use Rattle.std.proofs.Common.{◌≡◌, ℕ, ◌<◌, Bool, true, false, Option, Some, None, length, refl, sym}
use Rattle.std.proofs.Common.{subst, arith}
use Rattle.std.specs.Prelude.{Result, Ok, Err, IfOk}
use Rattle.model_history.specs.Rails.{Rails, Ends, Covers, single}
use Rattle.run_signal.specs.declared.level.Level.TheVariants.{Off, On}
use Rattle.run_signal.specs.{declared.level.Level.Level, Levels.level_rails}
use Rattle.model_line.specs.{declared.line.Line.Line, declared.script.Script.Script}
use Rattle.model_logic.specs.Choice.{Choice, Box, IsIn, IsWithin}
use Rattle.model_logic.specs.Histories.{History, IsLineHistory}
use Rattle.net_gates.specs.NetOf.{NetOf}
use Rattle.run_step.specs.WavesOf.{WavesOf, pair_in, wave_value}
use Rattle.run_step.specs.{Runs.CoverChoices, Runs.IsPoint, Played.is_on}
use Rattle.draw_gates.specs.dump.GateValues.{gate_levels}

abbrev rails_of_level : Level → ℕ → Rails
rails_of_level x lane = level_rails x

-- what covers a value with both rails the same is that value
level_is : (o : Option Level) (v : Bool) → Covers (pair_in rails_of_level 0 o) v
    → (pair_in rails_of_level 0 o).must ≡ v
level_is None true h = h.may refl
level_is None false h = refl
level_is (Some Off) true h = h.may refl
level_is (Some Off) false h = refl
level_is (Some On) true h = refl
level_is (Some On) false h = sym (h.must refl)

in_single : (n : ℕ) (ends : Ends) → ends ≡ single n → IsIn n ends
in_single n ends is =
    let P : Ends → Type 0 = λ e. IsIn n e in
    subst P (sym is) (record { least = omega arith; greatest = omega arith })

-- the choice of a box of one choice lies within it
point_within : (line : Line) (box : Box) (choice : Choice) → IsPoint line box choice
    → IsWithin line choice box
point_within line box choice point = record {
  numbers = λ i lt. in_single (choice.number i) (box.ends i) (point.numbers i lt);
  delays = λ c t lt early. in_single (choice.delay c t) (box.delay c t)
      (point.delays c t lt early);
}

pub levels_are : (line : Line) (script : Script) (box : Box) (choice : Choice) (net : NetOf)
    (waves : WavesOf Level) → IsPoint line box choice
    → CoverChoices rails_of_level 0 line script box net waves
    → (h : History) → IsLineHistory line script choice h
    → (gate t : ℕ) → gate < length net.gates → t < line.horizon
    → is_on waves gate t ≡ gate_levels line script choice h net gate t
levels_are line script box choice net waves point covers h is_h gate t lt early =
    level_is (wave_value waves gate t) (gate_levels line script choice h net gate t)
    (covers.gates choice h (point_within line box choice point) is_h gate t lt early)
