-- When a relay keys and trips, over every choice of times.
use Rattle.std.specs.Prelude.{◌≡◌, ℕ, Option}
use Rattle.model_history.specs.Rails.{Rails}
use Rattle.model_line.specs.{declared.line.Line.Line, declared.script.Script.Script}
use Rattle.model_logic.specs.{Choice.declared_box, Histories.IsPairHistory, Histories.PairHistory}
use Rattle.run_waves.specs.waves.FirstTick.{first_on}
use Rattle.call_shots.specs.declared.window.Window.{Window}

-- the first tick at which some choice may set it, and the first at which every choice has
abbrev pub first_may : Line → (ℕ → Rails) → Option ℕ
first_may line u = first_on (λ t. (u t).may) line.horizon

abbrev pub first_must : Line → (ℕ → Rails) → Option ℕ
first_must line u = first_on (λ t. (u t).must) line.horizon

-- so these are of the key and the trip of terminal k
pub record IsWindowOf (line : Line) (w : PairHistory) (k : ℕ) (window : Window) : Type 0 where
  pub key_may : window.key_may ≡ first_may line (w.key k)
  pub key_must : window.key_must ≡ first_must line (w.key k)
  pub trip_may : window.trip_may ≡ first_may line (w.trip k)
  pub trip_must : window.trip_must ≡ first_must line (w.trip k)

-- in the script's interval history over the declared intervals, of which there is one
pub record IsWindow (line : Line) (script : Script) (k : ℕ) (window : Window) : Type 0 where
  pub is : (w : PairHistory) → IsPairHistory line script (declared_box line) w
      → IsWindowOf line w k window
