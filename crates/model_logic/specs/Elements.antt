-- The trees of what a terminal sees for itself.
use Rattle.std.specs.Prelude.{ℕ, Bool, false, Option, Some, None, map, get_or, unwrap_or}
use Rattle.model_line.specs.declared.line.Setting.TheVariants.{Z1Pickup, Z1Dropout, Z2Pickup}
use Rattle.model_line.specs.declared.line.Setting.TheVariants.{Z2Dropout, RvPickup, RvDropout}
use Rattle.model_line.specs.declared.line.Setting.TheVariants.{UvPickup, UvDropout}
use Rattle.model_line.specs.{declared.line.Line.Line, declared.line.Owner.Owner}
use Rattle.model_line.specs.{declared.line.Setting.Setting, declared.script.Element.Element}
use Rattle.model_line.specs.{declared.script.Place.Place, Parameters.param_number}
use Rattle.model_line.specs.declared.line.Owner.TheVariants as owner
use Rattle.model_line.specs.declared.script.Element.TheVariants as element
use Rattle.model_logic.specs.Tree.{Tree, Seen, Timer}
use Rattle.model_logic.specs.{declared.time.Time.Time, declared.time.Time.TheVariants.Param}

-- whether terminal k is guarded against current reversal, and whether it is a weak infeed
abbrev pub is_guarded : Line → ℕ → Bool
is_guarded line k = get_or (map (λ t. t.guard) line.terminals.items) k false

abbrev pub is_weak : Line → ℕ → Bool
is_weak line k = get_or (map (λ t. t.weak) line.terminals.items) k false

-- the time that an owner's setting is
unfoldable pub setting_of : Line → Owner → Setting → Time
setting_of line o x = Param (unwrap_or (param_number line o x) 0)

-- the pickup and the dropout of an element, if it is timed
abbrev pub pickup_and_dropout : Element → Option (Setting × Setting)
pickup_and_dropout element.Z1 = Some (Z1Pickup, Z1Dropout)
pickup_and_dropout element.Z2 = Some (Z2Pickup, Z2Dropout)
pickup_and_dropout element.Rv = Some (RvPickup, RvDropout)
pickup_and_dropout element.Uv = Some (UvPickup, UvDropout)
pickup_and_dropout element.Cur = None

-- what a terminal sees at a place, timed by its own settings
abbrev pub timed_by : Line → Place → Option (Setting × Setting) → Tree
timed_by line place None = Seen place
timed_by line place (Some (pickup, dropout)) =
    Timer (Seen place) (setting_of line (owner.Terminal place.terminal) pickup)
    (setting_of line (owner.Terminal place.terminal) dropout)

-- what terminal k sees of an element
unfoldable pub seen_timed : Line → ℕ → Element → Tree
seen_timed line k e = timed_by line (record { element = e; terminal = k }) (pickup_and_dropout e)

-- the zone 1 element (Z1), and the overreaching zone 2 element (Z2)
abbrev pub zone1 : Line → ℕ → Tree
zone1 line k = seen_timed line k element.Z1

abbrev pub zone2 : Line → ℕ → Tree
zone2 line k = seen_timed line k element.Z2

-- the reverse element (RV), and the undervoltage element (UV)
abbrev pub reverse : Line → ℕ → Tree
reverse line k = seen_timed line k element.Rv

abbrev pub undervoltage : Line → ℕ → Tree
undervoltage line k = seen_timed line k element.Uv

-- current flows at terminal k (CUR)
abbrev pub current : Line → ℕ → Tree
current line k = seen_timed line k element.Cur
