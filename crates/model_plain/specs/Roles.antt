-- What a part of the logic may be to a protection engineer, the tree that it then stands for, and the
-- roles that the scheme of a line has.
use Rattle.std.specs.Prelude.{◌≡◌, ◌++◌, ◌==◌, ℕ, Bool, true, false, List, [], ◌∷◌, map}
use Rattle.std.specs.Prelude.{if◌then◌else◌}
use Rattle.std.specs.List.{All}
use Rattle.model_history.specs.Each.{each_below}
use Rattle.model_line.specs.declared.script.Element.TheVariants.{Z1, Z2, Rv, Uv, Cur}
use Rattle.model_line.specs.declared.line.Scheme.TheVariants.{Pott, Putt, Dcb, Dcub, Dtt}
use Rattle.model_line.specs.declared.line.Setting.TheVariants.{BlockCoord}
use Rattle.model_line.specs.{declared.script.Element.Element, declared.script.Place.Place}
use Rattle.model_line.specs.{declared.line.Line.Line, declared.line.Scheme.Scheme}
use Rattle.model_line.specs.Parameters.{channel_count}
use Rattle.model_line.specs.Channels.{from_of, to_of}
use Rattle.model_logic.specs.{Tree.Tree, Tree.Timer, declared.time.Time.TheVariants.Zero}
use Rattle.model_logic.specs.Tree as tree
use Rattle.model_logic.specs.Elements.{is_guarded, is_weak, seen_timed, zone2}
use Rattle.model_logic.specs.Received.{received, any_received}
use Rattle.model_logic.specs.Unblocking.{unblocked, locked_out}
use Rattle.model_logic.specs.Permissive.{terminal_setting, permission, reversal_guard, echo}
use Rattle.model_plain.specs.{declared.role.Role.Role, declared.role.NamedPart.NamedPart}
use Rattle.model_plain.specs.declared.role.Role.TheVariants.{Seen, Timed, Lost, Raw, Received}
use Rattle.model_plain.specs.declared.role.Role.TheVariants.{Window, Lockout, Guard, Coordination}
use Rattle.model_plain.specs.declared.role.Role.TheVariants.{Echo, Permission, AnyReceived}
use Rattle.model_plain.specs.Formulas.{own_tree}

-- zone 2 that has waited for a blocking signal, as the blocking scheme has it (COORD)
unfoldable pub coordinated : Line → ℕ → Tree
coordinated line k = Timer (zone2 line k) (terminal_setting line k BlockCoord) Zero

-- the terminals at which a channel ends, and from which it comes
abbrev pub receiver : Line → ℕ → ℕ
receiver line c = to_of line.channels.items c

abbrev pub sender : Line → ℕ → ℕ
sender line c = from_of line.channels.items c

-- the tree of the logic that has this role
unfoldable pub role_tree : Line → Role → Tree
role_tree line (Seen place) = tree.Seen place
role_tree line (Timed place) = seen_timed line place.terminal place.element
role_tree line (Lost c) = tree.Loss c
role_tree line (Raw c) = tree.Raw c
role_tree line (Received c) = received line (receiver line c) (sender line c)
role_tree line (Window c) = unblocked line (receiver line c) (sender line c)
role_tree line (Lockout c) = locked_out line (receiver line c) (sender line c)
role_tree line (Guard k) = reversal_guard line k
role_tree line (Coordination k) = coordinated line k
role_tree line (Echo k) = echo line k (permission line k)
role_tree line (Permission k) = permission line k
role_tree line (AnyReceived k) = any_received line k

-- it says why a terminal keys or trips, beside what it sees
abbrev pub explains : Role → Bool
explains (Seen place) = false
explains (Timed place) = false
explains (Lost c) = false
explains (Raw c) = false
explains (Received c) = true
explains (Window c) = true
explains (Lockout c) = true
explains (Guard k) = true
explains (Coordination k) = true
explains (Echo k) = true
explains (Permission k) = false
explains (AnyReceived k) = false

-- ---- the roles of terminal k

abbrev pub at : ℕ → Element → Place
at k element = record { element = element; terminal = k }

-- what it sees, at once and timed
abbrev pub seen_roles : ℕ → List Role
seen_roles k =
    Seen (at k Z1) ∷ (Seen (at k Z2) ∷ (Seen (at k Rv) ∷ (Seen (at k Uv) ∷ (Seen (at k Cur)
    ∷ (Timed (at k Z1) ∷ (Timed (at k Z2) ∷ (Timed (at k Rv) ∷ (Timed (at k Uv) ∷ []))))))))

-- what an unblocking line makes of the loss of a channel
abbrev pub window_roles : Scheme → ℕ → List Role
window_roles Pott c = []
window_roles Putt c = []
window_roles Dcb c = []
window_roles Dcub c = Window c ∷ (Lockout c ∷ [])
window_roles Dtt c = []

-- a channel that ends at k
abbrev pub channel_roles : Line → ℕ → ℕ → List Role
channel_roles line k c =
    if receiver line c == k
    then Lost c ∷ (Raw c ∷ (Received c ∷ window_roles line.scheme c)) else []

abbrev pub if_so : Bool → Role → List Role
if_so true role = role ∷ []
if_so false role = []

-- what its scheme makes of these, and what it is then permitted or sent by the others
abbrev pub scheme_roles : Scheme → Line → ℕ → List Role
scheme_roles Pott line k =
    if_so (is_guarded line k) (Guard k) ++ if_so (is_weak line k) (Echo k) ++ (Permission k ∷ [])
scheme_roles Dcub line k =
    if_so (is_guarded line k) (Guard k) ++ if_so (is_weak line k) (Echo k) ++ (Permission k ∷ [])
scheme_roles Putt line k = AnyReceived k ∷ []
scheme_roles Dcb line k = Coordination k ∷ (AnyReceived k ∷ [])
scheme_roles Dtt line k = AnyReceived k ∷ []

abbrev pub roles_at : Line → ℕ → List Role
roles_at line k =
    seen_roles k ++ each_below (channel_count line) (channel_roles line k)
    ++ scheme_roles line.scheme line k

-- ---- formulas

-- the formula stands for the tree of the part's role
unfoldable pub HasItsTree : Line → NamedPart → Type 0
HasItsTree line part = own_tree part.formula ≡ role_tree line part.role

abbrev pub roles_of : List NamedPart → List Role
roles_of parts = map (λ p. p.role) parts

-- the parts have these roles in order, and each formula stands for the tree of its role
pub record AreNamedParts (line : Line) (roles : List Role) (parts : List NamedPart) : Type 0 where
  pub are : roles_of parts ≡ roles
  pub stand : All (HasItsTree line) parts
