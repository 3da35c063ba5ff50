-- The trees of permission schemes: current reversal guard, echo, weak infeed, key and trip.
use Rattle.std.specs.Prelude.{ℕ, false, if◌then◌else◌}
use Rattle.model_line.specs.declared.line.Scheme.TheVariants.{Pott, Putt, Dcb, Dcub, Dtt}
use Rattle.model_line.specs.declared.line.Setting.TheVariants.{ReversalPickup, ReversalDropout}
use Rattle.model_line.specs.declared.line.Setting.TheVariants.{EchoBlock, EchoPickup, EchoPulse}
use Rattle.model_line.specs.declared.line.Setting.{Setting}
use Rattle.model_line.specs.{declared.line.Line.Line, declared.line.Scheme.Scheme}
use Rattle.model_line.specs.declared.line.Owner.TheVariants as owner
use Rattle.model_logic.specs.Tree.{Tree, Const, Not, And, Or, Timer}
use Rattle.model_logic.specs.Elements.{is_guarded, is_weak, setting_of, zone2, reverse}
use Rattle.model_logic.specs.Elements.{undervoltage}
use Rattle.model_logic.specs.{declared.time.Time.TheVariants.Zero, declared.time.Time.Time}
use Rattle.model_logic.specs.{Received.all_received, Unblocking.all_open}

-- what permits a terminal to trip, in the schemes that ask for permission (PERM)
abbrev pub permission_by : Scheme → Line → ℕ → Tree
permission_by Pott line k = all_received line k
permission_by Dcub line k = all_open line k
permission_by Putt line k = Const false
permission_by Dcb line k = Const false
permission_by Dtt line k = Const false

unfoldable pub permission : Line → ℕ → Tree
permission line k = permission_by line.scheme line k

-- a setting of terminal k
unfoldable pub terminal_setting : Line → ℕ → Setting → Time
terminal_setting line k x = setting_of line (owner.Terminal k) x

-- the current reversal guard (RG)
unfoldable pub reversal_guard : Line → ℕ → Tree
reversal_guard line k =
    if is_guarded line k
    then Timer (reverse line k) (terminal_setting line k ReversalPickup)
    (terminal_setting line k ReversalDropout)
    else Const false

-- k has seen no fault, ahead or behind, for as long as the echo is blocked (QUIET)
unfoldable pub quiet : Line → ℕ → Tree
quiet line k =
    Not (Timer (Or (zone2 line k) (reverse line k)) Zero (terminal_setting line k EchoBlock))

-- a weak terminal is permitted and quiet for long enough (WANT)
unfoldable pub echo_wanted : Line → ℕ → Tree → Tree
echo_wanted line k permission =
    if is_weak line k
    then Timer (And permission (quiet line k)) (terminal_setting line k EchoPickup) Zero
    else Const false

-- a weak terminal sends the permission back, for one pulse (ECHO)
unfoldable pub echo : Line → ℕ → Tree → Tree
echo line k permission =
    if is_weak line k
    then And (echo_wanted line k permission)
    (Not (Timer (echo_wanted line k permission) (terminal_setting line k EchoPulse) Zero))
    else Const false

-- a weak terminal trips where it would echo and the voltage is low (WEAKTRIP)
unfoldable pub weak_infeed_trip : Line → ℕ → Tree → Tree
weak_infeed_trip line k permission =
    if is_weak line k then And (echo_wanted line k permission) (undervoltage line k)
    else Const false

-- what an overreaching terminal sends
unfoldable pub permissive_key : Line → ℕ → Tree → Tree
permissive_key line k permission =
    Or (And (zone2 line k) (Not (reversal_guard line k))) (echo line k permission)

-- what an overreaching terminal trips on
unfoldable pub permissive_pilot : Line → ℕ → Tree → Tree
permissive_pilot line k permission =
    Or (And (And (zone2 line k) permission) (Not (reversal_guard line k)))
    (weak_infeed_trip line k permission)
