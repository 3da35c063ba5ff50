-- The rule of an obligation: held, broken or unknown, by the pairs of the terminal's trip.
use Rattle.std.specs.Prelude.{◌≤◌, ◌<◌, ℕ, suc, not, Bool, IsTrue, IsFalse, if◌then◌else◌}
use Rattle.model_history.specs.{Rails.Rails, Elements.some_below}
use Rattle.model_line.specs.declared.script.Kind.TheVariants.{Internal, External}
use Rattle.model_line.specs.declared.script.Script.{Script}
use Rattle.model_line.specs.{declared.line.Line.Line, declared.script.Kind.Kind}

pub data Rule : Type 0 where
  Held : Rule
  Broken : Rule
  Unknown : Rule

-- held. Internal: the must trip is true at some tick up to the deadline. External: the may trip is
-- true at no tick.
abbrev pub IsHeld : Kind → ℕ → ℕ → (ℕ → Rails) → Type 0
IsHeld Internal deadline horizon trip = (t : ℕ) × (t ≤ deadline) × IsTrue (trip t).must
IsHeld External deadline horizon trip = (t : ℕ) → t < horizon → IsFalse (trip t).may

-- broken. Internal: the may trip is true at no tick up to the deadline. External: the must trip is
-- true at some tick.
abbrev pub IsBroken : Kind → ℕ → ℕ → (ℕ → Rails) → Type 0
IsBroken Internal deadline horizon trip = (t : ℕ) → t ≤ deadline → IsFalse (trip t).may
IsBroken External deadline horizon trip = (t : ℕ) × (t < horizon) × IsTrue (trip t).must

-- whether it is held, and whether it is broken
abbrev pub is_held : Kind → ℕ → ℕ → (ℕ → Rails) → Bool
is_held Internal deadline horizon trip = some_below (λ t. (trip t).must) (suc deadline)
is_held External deadline horizon trip = not (some_below (λ t. (trip t).may) horizon)

abbrev pub is_broken : Kind → ℕ → ℕ → (ℕ → Rails) → Bool
is_broken Internal deadline horizon trip = not (some_below (λ t. (trip t).may) (suc deadline))
is_broken External deadline horizon trip = some_below (λ t. (trip t).must) horizon

-- unknown where it is neither
unfoldable pub rule_by : Kind → ℕ → ℕ → (ℕ → Rails) → Rule
rule_by kind deadline horizon trip =
    if is_held kind deadline horizon trip then Held
    else (if is_broken kind deadline horizon trip then Broken else Unknown)

-- the rule of a script's obligation at a terminal whose trip has these pairs
abbrev pub rule_of : Line → Script → (ℕ → Rails) → Rule
rule_of line script trip = rule_by script.kind script.deadline line.horizon trip
