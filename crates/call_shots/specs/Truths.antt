-- What a window says of every relay that is as the study says, whatever its times are.
use Rattle.std.specs.Prelude.{◌≡◌, ◌≤◌, ◌<◌, ◌*◌, ◌/◌, ℕ, Bool, Option, Some, IsSomeAnd, IsTrue}
use Rattle.model_line.specs.{declared.line.Line.Line, declared.script.Script.Script}
use Rattle.model_line.specs.Parameters.{terminal_count}
use Rattle.model_logic.specs.Choice.{declared_box}
use Rattle.model_fine.specs.Fine.{ForEachFineHistory}
use Rattle.call_shots.specs.Windows.{IsWindow}
use Rattle.call_shots.specs.declared.window.Window.{Window}

-- where a tick of the line is cut into n, a signal is on no sooner than at the first tick at which it
-- may, and throughout the first at which it must
pub record IsInside (line : Line) (from by : Option ℕ) (n : ℕ) (u : ℕ → Bool) : Type 0 where
  pub may : (t : ℕ) → t < line.horizon * n → IsTrue (u t) → IsSomeAnd from (λ m. m ≤ t / n)
  pub must : (t : ℕ) → t < line.horizon * n → by ≡ Some (t / n) → IsTrue (u t)

-- so are the key and the trip of a terminal, of every history of every choice of fractions within the
-- declared intervals
pub record IsTrueOfEach (line : Line) (script : Script) (k : ℕ) (window : Window) : Type 0 where
  pub key : ForEachFineHistory line script (declared_box line)
      (λ n h. IsInside line window.key_may window.key_must n (h.key k))
  pub trip : ForEachFineHistory line script (declared_box line)
      (λ n h. IsInside line window.trip_may window.trip_must n (h.trip k))

abbrev pub WindowsAreTrue : Type 0
WindowsAreTrue =
    (line : Line) (script : Script) (k : ℕ) (window : Window) → k < terminal_count line
    → IsWindow line script k window → IsTrueOfEach line script k window
