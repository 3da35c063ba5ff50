-- The trees of a terminal name only what the terminal has, so only what the line has.
use Rattle.std.proofs.Common.{◌≡◌, ◌≢◌, ◌==◌, ℕ, zero, suc, ◌<◌, Bool, true, false, cond, Option}
use Rattle.std.proofs.Common.{Some, None, refl, sym, subst, ap, ◌∙◌, arith}
use Rattle.std.proofs.lemmas.Bool.{eqb-false}
use Rattle.std.specs.Prelude.{unwrap_or, IfSome, [], get_or}
use Rattle.std.specs.List.{list_any}
use Rattle.model_line.specs.declared.line.Scheme.TheVariants.{Pott, Putt, Dcb, Dcub, Dtt}
use Rattle.model_line.specs.declared.line.Setting.TheVariants.{Z1Pickup, Z1Dropout, Z2Pickup}
use Rattle.model_line.specs.declared.line.Setting.TheVariants.{Z2Dropout, RvPickup, RvDropout}
use Rattle.model_line.specs.declared.line.Setting.TheVariants.{UvPickup, UvDropout, ReversalPickup}
use Rattle.model_line.specs.declared.line.Setting.TheVariants.{ReversalDropout, EchoBlock}
use Rattle.model_line.specs.declared.line.Setting.TheVariants.{EchoPickup, EchoPulse, BlockCarry}
use Rattle.model_line.specs.declared.line.Setting.TheVariants.{BlockCoord, TransferSecurity}
use Rattle.model_line.specs.declared.line.Setting.TheVariants.{UnblockPickup, UnblockWindow}
use Rattle.model_line.specs.declared.line.Setting.TheVariants.{UnblockRestore}
use Rattle.model_line.specs.Settings.{same_setting, groups_with, guard_settings, weak_settings}
use Rattle.model_line.specs.Settings.{scheme_settings, channel_settings}
use Rattle.model_line.specs.{declared.line.Line.Line, declared.line.Scheme.Scheme}
use Rattle.model_line.specs.{declared.line.Setting.Setting, declared.script.Element.Element}
use Rattle.model_line.specs.{Parameters.terminal_count, NumberLaws.number_within}
use Rattle.model_line.specs.declared.script.Element.TheVariants as element
use Rattle.model_line.specs.SettingPlaceLaws.{in_group}
use Rattle.model_logic.specs.declared.time.Time.TheVariants.{Zero, Param}
use Rattle.model_logic.specs.Names.{Names, HasTime, HasOwnTime, IsLocal}
use Rattle.model_logic.specs.Tree.{Tree, Const, Seen, Loss, Raw, Not, And, Or, Timer, Seal}
use Rattle.model_logic.specs.Elements.{is_guarded, is_weak, seen_timed, zone1, reverse}
use Rattle.model_logic.specs.Elements.{undervoltage}
use Rattle.model_logic.specs.Received.{channel_to, received, joined, over_others, all_others}
use Rattle.model_logic.specs.Received.{any_received, all_received}
use Rattle.model_logic.specs.Unblocking.{channel_setting, guard_seen, late, unblocked, locked_out}
use Rattle.model_logic.specs.Unblocking.{open_from, all_open}
use Rattle.model_logic.specs.Permissive.{terminal_setting, reversal_guard, quiet, echo_wanted, echo}
use Rattle.model_logic.specs.Permissive.{weak_infeed_trip, permissive_key, permissive_pilot}
use Rattle.model_logic.specs.Logic.{blocking_key, blocking_pilot, underreach_pilot, transfer_pilot}
use Rattle.model_logic.specs.Logic.{key_by, pilot_by, key_tree, set_tree, trip_tree}
use Rattle.model_logic.specs.declared.time.Time.{Time}
use Rattle.model_logic.proofs.OwnSettings.{own_setting, own_channel_setting}
use Rattle.model_logic.proofs.OwnSettings.{own_channel}

module _ (line : Line) (k : ℕ) (lt : k < terminal_count line) where
  -- ---- what a terminal sees

  local_seen : (e : Element) → IsLocal line k (seen_timed line k e)
  unfolding IsLocal seen_timed
  local_seen element.Z1 =
      (refl, (own_setting line k Z1Pickup lt refl, own_setting line k Z1Dropout lt refl))
  local_seen element.Z2 =
      (refl, (own_setting line k Z2Pickup lt refl, own_setting line k Z2Dropout lt refl))
  local_seen element.Rv =
      (refl, (own_setting line k RvPickup lt refl, own_setting line k RvDropout lt refl))
  local_seen element.Uv =
      (refl, (own_setting line k UvPickup lt refl, own_setting line k UvDropout lt refl))
  local_seen element.Cur = refl

  -- ---- what it receives

  local_received : (j : ℕ) → j < terminal_count line → j ≢ k → IsLocal line k (received line k j)
  unfolding IsLocal received
  local_received j jt ne = (own_channel line k j lt jt ne, own_channel line k j lt jt ne)

  -- a way to join trees that names no more than they do
  abbrev Joins : (Tree → Tree → Tree) → Type 0
  Joins op = (a b : Tree) → IsLocal line k a → IsLocal line k b → IsLocal line k (op a b)

  joins_and : Joins And
  unfolding IsLocal
  joins_and a b p q = (p, q)

  joins_or : Joins Or
  unfolding IsLocal
  joins_or a b p q = (p, q)

  local_joined : (op : Tree → Tree → Tree) → Joins op → (o : Option Tree) (x : Tree)
      → IfSome o (IsLocal line k) → IsLocal line k x → IsLocal line k (joined op o x)
  local_joined op h None x p q = q
  local_joined op h (Some a) x p q = h a x p q

  local_over_step : (op : Tree → Tree → Tree) → Joins op → (n : ℕ) (o : Option Tree) (x : Tree)
      → IfSome o (IsLocal line k) → (n ≢ k → IsLocal line k x) → (b : Bool) → (n == k) ≡ b
      → IfSome (cond b o (Some (joined op o x))) (IsLocal line k)
  local_over_step op h n o x p q true e = p
  local_over_step op h n o x p q false e = local_joined op h o x p (q (eqb-false n k e))

  local_over : (op : Tree → Tree → Tree) → Joins op → (tree : ℕ → Tree) (n : ℕ)
      → ((j : ℕ) → j < n → j ≢ k → IsLocal line k (tree j))
      → IfSome (over_others op tree k n) (IsLocal line k)
  local_over op h tree zero all = tt
  local_over op h tree (suc n) all =
      local_over_step op h n (over_others op tree k n) (tree n)
      (local_over op h tree n (λ j below ne. all j (omega arith) ne))
      (all n (omega arith)) (n == k) refl

  local_unless : (o : Option Tree) → IfSome o (IsLocal line k) → IsLocal line k (unwrap_or o (Const false))
  unfolding IsLocal
  local_unless None p = tt
  local_unless (Some a) p = p

  local_others : (op : Tree → Tree → Tree) → Joins op → (tree : ℕ → Tree)
      → ((j : ℕ) → j < terminal_count line → j ≢ k → IsLocal line k (tree j))
      → IsLocal line k (all_others op tree line k)
  unfolding all_others
  local_others op h tree all = local_unless (over_others op tree k (terminal_count line))
      (local_over op h tree (terminal_count line) all)

  local_any_received : IsLocal line k (any_received line k)
  unfolding any_received
  local_any_received = local_others Or joins_or (received line k) local_received

  local_all_received : IsLocal line k (all_received line k)
  unfolding all_received
  local_all_received = local_others And joins_and (received line k) local_received

  -- ---- unblocking

  module _ (unblocking : line.scheme ≡ Dcub) (j : ℕ) (jt : j < terminal_count line)
      (ne : j ≢ k) where
    local_channel_setting : (x : Setting) → list_any (same_setting x) (channel_settings Dcub) ≡ true
        → HasOwnTime line k (channel_setting line k j x)
    unfolding channel_setting
    local_channel_setting x has =
        own_channel_setting line k (channel_to line k j) x (own_channel line k j lt jt ne)
        (ap (λ s. list_any (same_setting x) (channel_settings s)) unblocking ∙ has)

    local_guard_seen : IsLocal line k (guard_seen line k j)
    unfolding IsLocal guard_seen
    local_guard_seen = (own_channel line k j lt jt ne, own_channel line k j lt jt ne)

    local_late : IsLocal line k (late line k j)
    unfolding IsLocal late
    local_late = (own_channel line k j lt jt ne, (local_channel_setting UnblockWindow refl, tt))

    local_unblocked : IsLocal line k (unblocked line k j)
    unfolding IsLocal unblocked
    local_unblocked = (
      (own_channel line k j lt jt ne, (local_channel_setting UnblockPickup refl, tt)),
      local_late,
    )

    local_locked_out : IsLocal line k (locked_out line k j)
    unfolding IsLocal locked_out
    local_locked_out =
        (local_late, (local_guard_seen, (local_channel_setting UnblockRestore refl, tt)))

    local_open_from : IsLocal line k (open_from line k j)
    unfolding IsLocal open_from
    local_open_from = ((local_received j jt ne, local_unblocked), local_locked_out)

  local_all_open : line.scheme ≡ Dcub → IsLocal line k (all_open line k)
  unfolding all_open
  local_all_open unblocking =
      local_others And joins_and (open_from line k) (λ j jt ne. local_open_from unblocking j jt ne)

  -- ---- permission

  -- where a choice names only what the line has on both sides
  local_cond : (b : Bool) (x y : Tree) → (b ≡ true → IsLocal line k x) → IsLocal line k y
      → IsLocal line k (cond b x y)
  local_cond true x y p q = p refl
  local_cond false x y p q = q

  local_none : IsLocal line k (Const false)
  unfolding IsLocal
  local_none = tt

  -- a setting of group j is the terminal's
  of_group : (j : ℕ) (x : Setting)
      → list_any (same_setting x)
      (get_or (groups_with line.scheme (is_guarded line k) (is_weak line k)) j []) ≡ true
      → HasOwnTime line k (terminal_setting line k x)
  unfolding terminal_setting
  of_group j x has =
      own_setting line k x lt
      (in_group (same_setting x) j
      (groups_with line.scheme (is_guarded line k) (is_weak line k)) has)

  guard_setting : (x : Setting) → list_any (same_setting x) (guard_settings true) ≡ true
      → is_guarded line k ≡ true → HasOwnTime line k (terminal_setting line k x)
  guard_setting x has g =
      of_group 4 x (ap (λ b. list_any (same_setting x) (guard_settings b)) g ∙ has)

  weak_setting : (x : Setting) → list_any (same_setting x) (weak_settings true) ≡ true
      → is_weak line k ≡ true → HasOwnTime line k (terminal_setting line k x)
  weak_setting x has w =
      of_group 5 x (ap (λ b. list_any (same_setting x) (weak_settings b)) w ∙ has)

  scheme_setting : (s : Scheme) (x : Setting) → list_any (same_setting x) (scheme_settings s) ≡ true
      → line.scheme ≡ s → HasOwnTime line k (terminal_setting line k x)
  scheme_setting s x has is =
      of_group 6 x (ap (λ q. list_any (same_setting x) (scheme_settings q)) is ∙ has)

  local_reversal_guard : IsLocal line k (reversal_guard line k)
  unfolding reversal_guard IsLocal
  local_reversal_guard = local_cond (is_guarded line k)
      (Timer (reverse line k) (terminal_setting line k ReversalPickup)
      (terminal_setting line k ReversalDropout))
      (Const false)
      (λ g. (
        local_seen element.Rv,
        (guard_setting ReversalPickup refl g, guard_setting ReversalDropout refl g),
      ))
      local_none

  local_quiet : is_weak line k ≡ true → IsLocal line k (quiet line k)
  unfolding quiet IsLocal
  local_quiet w =
      ((local_seen element.Z2, local_seen element.Rv), (tt, weak_setting EchoBlock refl w))

  module _ (perm : Tree) (p : IsLocal line k perm) where
    local_echo_wanted : IsLocal line k (echo_wanted line k perm)
    unfolding echo_wanted IsLocal
    local_echo_wanted = local_cond (is_weak line k)
        (Timer (And perm (quiet line k)) (terminal_setting line k EchoPickup) Zero) (Const false)
        (λ w. ((p, local_quiet w), (weak_setting EchoPickup refl w, tt))) local_none

    local_echo : IsLocal line k (echo line k perm)
    unfolding echo IsLocal
    local_echo = local_cond (is_weak line k)
        (And (echo_wanted line k perm)
        (Not (Timer (echo_wanted line k perm) (terminal_setting line k EchoPulse) Zero)))
        (Const false)
        (λ w. (local_echo_wanted, (local_echo_wanted, (weak_setting EchoPulse refl w, tt))))
        local_none

    local_weak_infeed_trip : IsLocal line k (weak_infeed_trip line k perm)
    unfolding weak_infeed_trip IsLocal
    local_weak_infeed_trip = local_cond (is_weak line k)
        (And (echo_wanted line k perm) (undervoltage line k)) (Const false)
        (λ w. (local_echo_wanted, local_seen element.Uv)) local_none

    local_permissive_key : IsLocal line k (permissive_key line k perm)
    unfolding permissive_key IsLocal
    local_permissive_key = ((local_seen element.Z2, local_reversal_guard), local_echo)

    local_permissive_pilot : IsLocal line k (permissive_pilot line k perm)
    unfolding permissive_pilot IsLocal
    local_permissive_pilot = (((local_seen element.Z2, p), local_reversal_guard), local_weak_infeed_trip)

  -- ---- blocking, underreach and transfer

  local_blocking_key : line.scheme ≡ Dcb → IsLocal line k (blocking_key line k)
  unfolding blocking_key IsLocal
  local_blocking_key s =
      ((local_seen element.Rv, local_seen element.Z2), (tt, scheme_setting Dcb BlockCarry refl s))

  local_blocking_pilot : line.scheme ≡ Dcb → IsLocal line k (blocking_pilot line k)
  unfolding blocking_pilot IsLocal
  local_blocking_pilot s =
      ((local_seen element.Z2, (scheme_setting Dcb BlockCoord refl s, tt)), local_any_received)

  local_underreach_pilot : IsLocal line k (underreach_pilot line k)
  unfolding underreach_pilot IsLocal
  local_underreach_pilot = (local_seen element.Z2, local_any_received)

  local_transfer_pilot : line.scheme ≡ Dtt → IsLocal line k (transfer_pilot line k)
  unfolding transfer_pilot IsLocal
  local_transfer_pilot s = (local_any_received, (scheme_setting Dtt TransferSecurity refl s, tt))

  -- ---- scheme by scheme

  local_key_by : (s : Scheme) → line.scheme ≡ s → IsLocal line k (key_by s line k)
  local_key_by Pott e = local_permissive_key (all_received line k) local_all_received
  local_key_by Dcub e = local_permissive_key (all_open line k) (local_all_open e)
  local_key_by Putt e = local_seen element.Z1
  local_key_by Dcb e = local_blocking_key e
  local_key_by Dtt e = local_seen element.Z1

  local_pilot_by : (s : Scheme) → line.scheme ≡ s → IsLocal line k (pilot_by s line k)
  local_pilot_by Pott e = local_permissive_pilot (all_received line k) local_all_received
  local_pilot_by Dcub e = local_permissive_pilot (all_open line k) (local_all_open e)
  local_pilot_by Putt e = local_underreach_pilot
  local_pilot_by Dcb e = local_blocking_pilot e
  local_pilot_by Dtt e = local_transfer_pilot e

  pub local_key_tree : IsLocal line k (key_tree line k)
  unfolding key_tree
  local_key_tree = local_key_by line.scheme refl

  local_set_tree : IsLocal line k (set_tree line k)
  unfolding set_tree IsLocal
  local_set_tree =
      let pilot : IsLocal line k (pilot_by line.scheme line k) = local_pilot_by line.scheme refl in
      local_cond line.zone1_trip (Or (pilot_by line.scheme line k) (zone1 line k))
      (pilot_by line.scheme line k) (λ _. (pilot, local_seen element.Z1)) pilot

  pub local_trip_tree : IsLocal line k (trip_tree line k)
  unfolding trip_tree IsLocal
  local_trip_tree = (local_set_tree, local_seen element.Cur)

-- ---- what a terminal has is the line's

own_time : (line : Line) (k : ℕ) (x : Time) → HasOwnTime line k x → HasTime line x
own_time line k Zero own = tt
own_time line k (Param i) own = number_within line own.of own.setting i own.number

local_named : (line : Line) (k : ℕ) → k < terminal_count line → (x : Tree) → IsLocal line k x
    → Names line x
unfolding IsLocal Names
local_named line k lt (Const v) own = tt
local_named line k lt (Seen p) own = subst (λ (j : ℕ). j < terminal_count line) (sym own) lt
local_named line k lt (Loss c) own = own.exists
local_named line k lt (Raw c) own = own.exists
local_named line k lt (Not x) own = local_named line k lt x own
local_named line k lt (And x y) own =
    (local_named line k lt x own.0, local_named line k lt y own.1)
local_named line k lt (Or x y) own =
    (local_named line k lt x own.0, local_named line k lt y own.1)
local_named line k lt (Timer x p d) own =
    (local_named line k lt x own.0, (own_time line k p own.1.0, own_time line k d own.1.1))
local_named line k lt (Seal x y) own =
    (local_named line k lt x own.0, local_named line k lt y own.1)

pub names_key_tree : (line : Line) (k : ℕ) → k < terminal_count line
    → Names line (key_tree line k)
names_key_tree line k lt = local_named line k lt (key_tree line k) (local_key_tree line k lt)

pub names_trip_tree : (line : Line) (k : ℕ) → k < terminal_count line
    → Names line (trip_tree line k)
names_trip_tree line k lt = local_named line k lt (trip_tree line k) (local_trip_tree line k lt)
