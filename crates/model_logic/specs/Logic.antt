-- What each terminal sends and trips on, by the scheme.
use Rattle.std.specs.Prelude.{ℕ, if◌then◌else◌}
use Rattle.model_line.specs.declared.line.Scheme.TheVariants.{Pott, Putt, Dcb, Dcub, Dtt}
use Rattle.model_line.specs.declared.line.Setting.TheVariants.{BlockCarry, BlockCoord}
use Rattle.model_line.specs.declared.line.Setting.TheVariants.{TransferSecurity}
use Rattle.model_line.specs.{declared.line.Line.Line, declared.line.Scheme.Scheme}
use Rattle.model_logic.specs.Tree.{Tree, Not, And, Or, Timer, Seal}
use Rattle.model_logic.specs.Elements.{zone1, zone2, reverse, current}
use Rattle.model_logic.specs.Received.{any_received, all_received}
use Rattle.model_logic.specs.Permissive.{terminal_setting, permissive_key, permissive_pilot}
use Rattle.model_logic.specs.{declared.time.Time.TheVariants.Zero, Unblocking.all_open}

-- a blocking terminal sends while it sees a fault behind, and carries on for a while
unfoldable pub blocking_key : Line → ℕ → Tree
blocking_key line k =
    Timer (And (reverse line k) (Not (zone2 line k))) Zero (terminal_setting line k BlockCarry)

-- it trips on zone 2 after the coordination delay, where nothing blocks it
unfoldable pub blocking_pilot : Line → ℕ → Tree
blocking_pilot line k =
    And (Timer (zone2 line k) (terminal_setting line k BlockCoord) Zero)
    (Not (any_received line k))

-- an underreaching terminal trips on zone 2 and any received signal
unfoldable pub underreach_pilot : Line → ℕ → Tree
underreach_pilot line k = And (zone2 line k) (any_received line k)

-- a transfer trip acts on any signal that lasts for the security time
unfoldable pub transfer_pilot : Line → ℕ → Tree
transfer_pilot line k =
    Timer (any_received line k) (terminal_setting line k TransferSecurity) Zero

-- what a terminal sends, scheme by scheme (KEY)
abbrev pub key_by : Scheme → Line → ℕ → Tree
key_by Pott line k = permissive_key line k (all_received line k)
key_by Dcub line k = permissive_key line k (all_open line k)
key_by Putt line k = zone1 line k
key_by Dcb line k = blocking_key line k
key_by Dtt line k = zone1 line k

-- what its pilot scheme trips on, scheme by scheme (PILOT)
abbrev pub pilot_by : Scheme → Line → ℕ → Tree
pilot_by Pott line k = permissive_pilot line k (all_received line k)
pilot_by Dcub line k = permissive_pilot line k (all_open line k)
pilot_by Putt line k = underreach_pilot line k
pilot_by Dcb line k = blocking_pilot line k
pilot_by Dtt line k = transfer_pilot line k

-- what terminal k sends
unfoldable pub key_tree : Line → ℕ → Tree
key_tree line k = key_by line.scheme line k

-- what sets the trip of terminal k: its pilot scheme, and zone 1 where that trips by itself (SET)
unfoldable pub set_tree : Line → ℕ → Tree
set_tree line k =
    if line.zone1_trip then Or (pilot_by line.scheme line k) (zone1 line k)
    else pilot_by line.scheme line k

-- what trips terminal k, sealed in by its current
unfoldable pub trip_tree : Line → ℕ → Tree
trip_tree line k = Seal (set_tree line k) (current line k)
