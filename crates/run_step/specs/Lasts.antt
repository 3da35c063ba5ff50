-- For how long a gate stays the same, as long as its arguments do and so does the key that it hears.
use Rattle.run_signal.specs.Signals.{SignalOf}
use Rattle.std.specs.Prelude.{◌≡◌, ◌<◌, ◌≤◌, ◌+◌, ◌-◌, ℕ, suc, List}
use Rattle.model_history.specs.Rails.{Rails, Ends, rails_delayed, rails_timed}
use Rattle.model_history.specs.Recorded.{first_ticks}
use Rattle.run_signal.specs.Lanes.{in_lane}
use Rattle.net_gates.specs.declared.gate.Gate.{Gate}
use Rattle.net_gates.specs.declared.gate.Gate.TheVariants.{Const, Seen, Loss, Raw, Not, And, Or}
use Rattle.net_gates.specs.declared.gate.Gate.TheVariants.{Timer, Seal}
use Rattle.run_step.specs.{Quiet.Keeps, Lanes.LanePairs}

-- the key is from tick t on for n ticks what it is at tick b
abbrev pub IsHeldAs : (ℕ → Rails) → ℕ → ℕ → ℕ → Type 0
IsHeldAs key b t n = (r : ℕ) → t ≤ r → r < t + n → key r ≡ key b

-- what was sent c ticks ago stays the same from tick t on for n ticks: up to each of them, if the key
-- is held as at tick b as far as it comes by then
abbrev pub EndLasts : (ℕ → Rails) → ℕ → ℕ → ℕ → ℕ → Type 0
EndLasts key b c t n =
    (j : ℕ) → j < n → IsHeldAs key b t (suc j - c)
    → (t < c → t + j < c) × (c ≤ t → key (t + j - c) ≡ key (t - c))

-- so it is of a key with these values before tick t, held as at the last of them, in each lane
abbrev pub EndStays : {V S : Type 0} → SignalOf V S → List V → ℕ → ℕ → ℕ → Type 0
EndStays signal values t c n =
    (lane : ℕ) (u : ℕ → Rails) → lane < signal.lanes
    → in_lane signal.rails lane values ≡ first_ticks u t
    → EndLasts u (t - 1) c t n

-- what arrives within a delay's ends stays the same from tick t on for n ticks: up to each of them,
-- if the key is held as at tick b as far as it arrives by then
abbrev pub ArrivesAs : (ℕ → Rails) → Ends → ℕ → ℕ → ℕ → Type 0
ArrivesAs key ends b t n =
    (j : ℕ) → j < n → IsHeldAs key b t (suc j - ends.least)
    → rails_delayed key ends (t + j) ≡ rails_delayed key ends t

-- so it is of a delay that may move, which does not before
pub record RawLasts (key : ℕ → Rails) (delay : ℕ → Ends) (b t n : ℕ) : Type 0 where
  pub later : 1 ≤ n → 1 ≤ (delay t).least
  pub still : Keeps delay t n
  pub arrives : ArrivesAs key (delay t) b t n

-- what the gate rests on beside its arguments stays the same from tick t on for n ticks, if the key
-- that it hears is held as at tick b; of a timer, if its input is held
abbrev pub Lasts : LanePairs → ℕ → ℕ → ℕ → Gate → Type 0
Lasts p b t n (Const v) = Unit {0}
Lasts p b t n (Seen place) = Keeps (p.world.seen place) t n
Lasts p b t n (Loss c) = Keeps (p.world.lost c) t n
Lasts p b t n (Raw c) = RawLasts (p.keys (p.world.from c)) (p.world.delay c) b t n
Lasts p b t n (Not x) = Unit {0}
Lasts p b t n (And x y) = Unit {0}
Lasts p b t n (Or x y) = Unit {0}
Lasts p b t n (Timer x pickup dropout) =
    (j : ℕ) → j < n → Keeps (p.pairs x.0) t (suc j)
    → rails_timed (p.pairs x.0) (p.world.time pickup) (p.world.time dropout) (t + j)
    ≡ rails_timed (p.pairs x.0) (p.world.time pickup) (p.world.time dropout) t
Lasts p b t n (Seal x y) = Unit {0}
