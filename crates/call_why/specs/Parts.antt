-- What a gate is called.
use Rattle.std.specs.Prelude.{◌==◌, ℕ, zero, suc, Option, None, Some, length, nat_lt}
use Rattle.std.specs.Prelude.{if◌then◌else◌}
use Rattle.model_line.specs.{declared.line.Line.Line, Parameters.terminal_count}
use Rattle.model_logic.specs.{Logic.key_tree, Logic.trip_tree, Tree.Tree}
use Rattle.model_plain.specs.{declared.role.Role.Role, Roles.roles_at, Roles.role_tree}
use Rattle.model_plain.specs.declared.role.Role.TheVariants.{Seen, Timed, Lost, Raw, Received}
use Rattle.model_plain.specs.declared.role.Role.TheVariants.{Window, Lockout, Guard, Coordination}
use Rattle.model_plain.specs.declared.role.Role.TheVariants.{Echo, Permission, AnyReceived}
use Rattle.net_gates.specs.NetOf.{NetOf, key_of, trip_of}
use Rattle.draw_gates.specs.roles.Lookup.{role_among}
use Rattle.call_why.specs.declared.part.Part.{Part}
use Rattle.call_why.specs.declared.part.Part.TheVariants.{Is, Trip, Key}

-- a role is told, but not what the script shows before it is timed, nor what arrives
abbrev pub told_role : Option Role → Option Part
told_role None = None
told_role (Some (Seen p)) = None
told_role (Some (Timed p)) = Some (Is (Timed p))
told_role (Some (Lost c)) = Some (Is (Lost c))
told_role (Some (Raw c)) = None
told_role (Some (Received c)) = Some (Is (Received c))
told_role (Some (Window c)) = Some (Is (Window c))
told_role (Some (Lockout c)) = Some (Is (Lockout c))
told_role (Some (Guard k)) = Some (Is (Guard k))
told_role (Some (Coordination k)) = Some (Is (Coordination k))
told_role (Some (Echo k)) = Some (Is (Echo k))
told_role (Some (Permission k)) = Some (Is (Permission k))
told_role (Some (AnyReceived k)) = Some (Is (AnyReceived k))

abbrev pub first_of : Option Part → Option Part → Option Part
first_of None other = other
first_of (Some part) other = Some part

-- gate i is the trip of terminal k, or what it sends
abbrev pub end_of : NetOf → ℕ → ℕ → Option Part
end_of net i k =
    if trip_of net k == i then Some (Trip k) else (if key_of net k == i then Some (Key k) else None)

-- what terminal k calls it
abbrev pub part_at : Line → NetOf → ℕ → ℕ → Option Part
part_at line net i k =
    first_of (told_role (role_among line net.gates i (roles_at line k))) (end_of net i k)

-- what the first of n terminals that has a name for it calls it
abbrev pub part_below : Line → NetOf → ℕ → ℕ → Option Part
part_below line net i zero = None
part_below line net i (suc n) = first_of (part_below line net i n) (part_at line net i n)

-- what gate i of the net is called, if it has a name
unfoldable pub part_of : Line → NetOf → ℕ → Option Part
part_of line net i =
    if nat_lt i (length net.gates) then part_below line net i (terminal_count line) else None

-- the tree of the logic that is called so
abbrev pub part_tree : Line → Part → Tree
part_tree line (Is role) = role_tree line role
part_tree line (Trip k) = trip_tree line k
part_tree line (Key k) = key_tree line k
