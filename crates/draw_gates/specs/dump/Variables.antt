-- The variables of a value change dump (IEEE 1364): one for each gate, and one more for each
-- terminal's key and trip.
use Rattle.std.specs.Prelude.{[], ◌++◌, ◌+◌, ◌/◌, ◌%◌, ◌==◌, ◌&&◌, ◌||◌, ℕ, Bool, true, false, List}
use Rattle.std.specs.Prelude.{◌∷◌, Option, Some, None, codes, decimal, length, slice_get, is_some}
use Rattle.std.specs.Prelude.{if◌then◌else◌}
use Rattle.std.specs.Char.{is_ascii_alphabetic, is_ascii_alphanumeric}
use Rattle.std.specs.List.{list_all}
use Rattle.model_history.specs.Each.{each_below}
use Rattle.model_line.specs.Channels.{from_of, to_of}
use Rattle.model_line.specs.{declared.line.Line.Line, ParamNames.name_at, Parameters.terminal_count}
use Rattle.model_line.specs.NamesByNumber.{element_text}
use Rattle.net_gates.specs.declared.gate.Gate.{Gate}
use Rattle.net_gates.specs.declared.gate.Gate.TheVariants as gate
use Rattle.net_gates.specs.NetOf.{NetOf, key_of, trip_of}
use Rattle.model_plain.specs.declared.role.Role.TheVariants.{Seen, Timed, Lost, Raw, Received}
use Rattle.model_plain.specs.declared.role.Role.TheVariants.{Window, Lockout, Guard, Coordination}
use Rattle.model_plain.specs.declared.role.Role.TheVariants.{Echo, Permission, AnyReceived}
use Rattle.model_plain.specs.{declared.role.Role.Role, Roles.roles_at}
use Rattle.draw_gates.specs.roles.Lookup.{role_among}
use Rattle.model_history.specs.Elements.{some_below}

-- the identifier code of gate i: two characters from `!` to `~`
unfoldable pub code_of : ℕ → List ℕ
code_of i = (33 + i / 94) ∷ ((33 + i % 94) ∷ [])

-- ---- names

abbrev pub kind_text : Gate → List ℕ
kind_text (gate.Const v) = codes "const"
kind_text (gate.Seen p) = codes "seen"
kind_text (gate.Loss c) = codes "loss"
kind_text (gate.Raw c) = codes "raw"
kind_text (gate.Not a) = codes "not"
kind_text (gate.And a b) = codes "and"
kind_text (gate.Or a b) = codes "or"
kind_text (gate.Timer a p d) = codes "timer"
kind_text (gate.Seal a b) = codes "seal"

-- a channel, as `B_A`: the sender and the receiver
abbrev pub channel_text : Line → ℕ → List ℕ
channel_text line c =
    name_at line.terminals.items (from_of line.channels.items c)
    ++ (95 ∷ name_at line.terminals.items (to_of line.channels.items c))

-- a step by its number and kind
abbrev pub step_text : ℕ → Gate → List ℕ
step_text i g = 103 ∷ (decimal i ++ (95 ∷ kind_text g))

-- the name of a role: `z2`, `z2_on`, `loss_B_A`, `raw_B_A`, `rx_B_A`, `window_B_A`, `lockout_B_A`,
-- `guard_A`, `coord_A`, `echo_A`, `perm_A`, `rx_A`
abbrev pub role_text : Line → Role → List ℕ
role_text line (Seen p) = element_text p.element
role_text line (Timed p) = element_text p.element ++ codes "_on"
role_text line (Lost c) = codes "loss_" ++ channel_text line c
role_text line (Raw c) = codes "raw_" ++ channel_text line c
role_text line (Received c) = codes "rx_" ++ channel_text line c
role_text line (Window c) = codes "window_" ++ channel_text line c
role_text line (Lockout c) = codes "lockout_" ++ channel_text line c
role_text line (Guard k) = codes "guard_" ++ name_at line.terminals.items k
role_text line (Coordination k) = codes "coord_" ++ name_at line.terminals.items k
role_text line (Echo k) = codes "echo_" ++ name_at line.terminals.items k
role_text line (Permission k) = codes "perm_" ++ name_at line.terminals.items k
role_text line (AnyReceived k) = codes "rx_" ++ name_at line.terminals.items k

-- a simple identifier: letters, digits, `_` and `$`, of which no digit and no `$` is first
abbrev pub may_begin : ℕ → Bool
may_begin b = is_ascii_alphabetic b || (b == 95)

abbrev pub may_follow : ℕ → Bool
may_follow b = is_ascii_alphanumeric b || ((b == 95) || (b == 36))

abbrev pub is_simple : List ℕ → Bool
is_simple [] = false
is_simple (b ∷ rest) = may_begin b && list_all may_follow rest

-- any other name is an escaped identifier: it begins with `\` and ends at the blank behind it
abbrev pub identifier : List ℕ → List ℕ
identifier name = if is_simple name then name else 92 ∷ name

-- ---- declarations

-- a variable of one bit, of gate i
unfoldable pub variable_head : ℕ → List ℕ
variable_head i = codes "$var wire 1 " ++ code_of i ++ codes " "

abbrev pub variable_text : ℕ → List ℕ → List ℕ
variable_text i name = variable_head i ++ identifier name ++ codes " $end\n"

-- gate i under the name of its role, if it has one
abbrev pub named_variable : Line → ℕ → Option Role → List ℕ
named_variable line i None = []
named_variable line i (Some role) = variable_text i (role_text line role)

-- gate i, if terminal k has a role for it, under the first
unfoldable pub variable_at : Line → List Gate → ℕ → ℕ → List ℕ
variable_at line gates k i = named_variable line i (role_among line gates i (roles_at line k))

-- some terminal has a role for gate i
abbrev pub is_named : Line → List Gate → ℕ → Bool
is_named line gates i =
    some_below (λ k. is_some (role_among line gates i (roles_at line k))) (terminal_count line)

abbrev pub step_variable : ℕ → Option Gate → Bool → List ℕ
step_variable i None named = []
step_variable i (Some g) true = []
step_variable i (Some g) false = variable_text i (step_text i g)

-- gate i, if no terminal has a role for it, by its number and kind
unfoldable pub variable_of : Line → List Gate → ℕ → List ℕ
variable_of line gates i = step_variable i (slice_get gates i) (is_named line gates i)

abbrev pub scope_text : List ℕ → List ℕ
scope_text name = codes "$scope module " ++ (identifier name ++ codes " $end\n")

-- the scope of terminal k: its gates, and under names of their own its key and its trip
unfoldable pub terminal_scope : Line → NetOf → ℕ → List ℕ
terminal_scope line net k =
    let name : List ℕ = name_at line.terminals.items k in
    scope_text name ++ each_below (length net.gates) (variable_at line net.gates k)
    ++ variable_text (key_of net k) (codes "key_" ++ name)
    ++ variable_text (trip_of net k) (codes "trip_" ++ name)
    ++ codes "$upscope $end\n"

-- all declarations: the terminals' scopes in line order, and then the steps, in a scope whose name
-- no terminal has
unfoldable pub declarations : Line → NetOf → List ℕ
declarations line net =
    each_below (terminal_count line) (terminal_scope line net) ++ scope_text (codes "gates$")
    ++ each_below (length net.gates) (variable_of line net.gates)
    ++ codes "$upscope $end\n"
