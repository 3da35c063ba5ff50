-- The trees of a line's keys and trips are off while nothing is seen, lost or sent.
use Rattle.std.proofs.Common.{◌==◌, ◌&&◌, ◌||◌, ℕ, zero, suc, Bool, true, false, cond, Option}
use Rattle.std.proofs.Common.{Some, None, refl, ap, ◌∙◌, inl, inr}
use Rattle.std.specs.Prelude.{unwrap_or, IfSome}
use Rattle.model_line.specs.declared.line.Scheme.TheVariants.{Pott, Putt, Dcb, Dcub, Dtt}
use Rattle.model_line.specs.declared.line.Setting.TheVariants.{ReversalPickup, ReversalDropout}
use Rattle.model_line.specs.declared.line.Setting.TheVariants.{EchoBlock, EchoPickup, EchoPulse}
use Rattle.model_line.specs.declared.line.Setting.TheVariants.{BlockCarry, BlockCoord}
use Rattle.model_line.specs.declared.line.Setting.TheVariants.{TransferSecurity}
use Rattle.model_line.specs.declared.line.Setting.TheVariants.{UnblockWindow, UnblockRestore}
use Rattle.model_line.specs.{declared.line.Line.Line, declared.line.Scheme.Scheme}
use Rattle.model_line.specs.{declared.script.Element.Element, Parameters.terminal_count}
use Rattle.model_line.specs.declared.script.Element.TheVariants as element
use Rattle.model_logic.specs.declared.time.Time.{Time}
use Rattle.model_logic.specs.declared.time.Time.TheVariants.{Zero}
use Rattle.model_logic.specs.Tree.{Tree, Const, Not, And, Or, Timer, Seal}
use Rattle.model_logic.specs.Elements.{is_guarded, is_weak, seen_timed, zone2, reverse, zone1}
use Rattle.model_logic.specs.Elements.{undervoltage}
use Rattle.model_logic.specs.Received.{channel_to, received, joined, over_others, all_others}
use Rattle.model_logic.specs.Received.{any_received, all_received}
use Rattle.model_logic.specs.Unblocking.{channel_setting, guard_seen, late, unblocked, locked_out}
use Rattle.model_logic.specs.Unblocking.{open_from, all_open}
use Rattle.model_logic.specs.Permissive.{terminal_setting, reversal_guard, quiet, echo_wanted, echo}
use Rattle.model_logic.specs.Permissive.{weak_infeed_trip, permissive_key, permissive_pilot}
use Rattle.model_logic.specs.Logic.{blocking_key, blocking_pilot, underreach_pilot, transfer_pilot}
use Rattle.model_logic.specs.Logic.{key_by, pilot_by, key_tree, set_tree, trip_tree}
use Rattle.model_borders.proofs.AtRest.{rest, Rests, IsOff}

-- ---- how trees are made

off_const : IsOff (Const false)
unfolding rest Rests
off_const = record { rests = tt; off = refl }

off_and : (x y : Tree) → IsOff x → Rests y → IsOff (And x y)
unfolding rest Rests
off_and x y a b = record {
  rests = (a.rests, b);
  off = ap (λ (v : Bool). v && rest y) a.off;
}

off_or : (x y : Tree) → IsOff x → IsOff y → IsOff (Or x y)
unfolding rest Rests
off_or x y a b = record {
  rests = (a.rests, b.rests);
  off = ap (λ (v : Bool). v || rest y) a.off ∙ b.off;
}

off_timer : (x : Tree) (p d : Time) → IsOff x → IsOff (Timer x p d)
unfolding rest Rests
off_timer x p d a = record { rests = (a.rests, a.off); off = refl }

off_seal : (x y : Tree) → IsOff x → Rests y → IsOff (Seal x y)
unfolding rest Rests
off_seal x y a b = record { rests = (a.rests, a.off, inl b); off = refl }

rests_not : (x : Tree) → Rests x → Rests (Not x)
unfolding Rests
rests_not x a = a

off_cond : (b : Bool) (x y : Tree) → IsOff x → IsOff y → IsOff (cond b x y)
off_cond true x y a b = a
off_cond false x y a b = b

-- ---- the trees of all other terminals, joined

abbrev Joins : (Tree → Tree → Tree) → Type 0
Joins op = (a b : Tree) → IsOff a → IsOff b → IsOff (op a b)

joins_and : Joins And
joins_and a b x y = off_and a b x y.rests

off_joined : (op : Tree → Tree → Tree) → Joins op → (o : Option Tree) (x : Tree)
    → IfSome o IsOff → IsOff x → IsOff (joined op o x)
off_joined op h None x p q = q
off_joined op h (Some a) x p q = h a x p q

off_step : (op : Tree → Tree → Tree) → Joins op → (o : Option Tree) (x : Tree) (b : Bool)
    → IfSome o IsOff → IsOff x → IfSome (cond b o (Some (joined op o x))) IsOff
off_step op h o x true p q = p
off_step op h o x false p q = off_joined op h o x p q

off_over : (op : Tree → Tree → Tree) → Joins op → (tree : ℕ → Tree) (k n : ℕ)
    → ((j : ℕ) → IsOff (tree j)) → IfSome (over_others op tree k n) IsOff
off_over op h tree k zero all = tt
off_over op h tree k (suc n) all =
    off_step op h (over_others op tree k n) (tree n) (n == k) (off_over op h tree k n all) (all n)

off_unless : (o : Option Tree) → IfSome o IsOff → IsOff (unwrap_or o (Const false))
off_unless None p = off_const
off_unless (Some a) p = p

module _ (line : Line) (k : ℕ) where
  off_others : (op : Tree → Tree → Tree) → Joins op → (tree : ℕ → Tree) → ((j : ℕ) → IsOff (tree j))
      → IsOff (all_others op tree line k)
  unfolding all_others
  off_others op h tree all =
      off_unless (over_others op tree k (terminal_count line))
      (off_over op h tree k (terminal_count line) all)

  -- ---- what a terminal sees and receives

  off_seen : (e : Element) → IsOff (seen_timed line k e)
  unfolding rest Rests seen_timed
  off_seen element.Z1 = record { rests = (tt, refl); off = refl }
  off_seen element.Z2 = record { rests = (tt, refl); off = refl }
  off_seen element.Rv = record { rests = (tt, refl); off = refl }
  off_seen element.Uv = record { rests = (tt, refl); off = refl }
  off_seen element.Cur = record { rests = tt; off = refl }

  off_received : (j : ℕ) → IsOff (received line k j)
  unfolding rest Rests received
  off_received j = record { rests = (tt, tt); off = refl }

  off_any_received : IsOff (any_received line k)
  unfolding any_received
  off_any_received = off_others Or off_or (received line k) off_received

  off_all_received : IsOff (all_received line k)
  unfolding all_received
  off_all_received = off_others And joins_and (received line k) off_received

  -- ---- unblocking

  off_late : (j : ℕ) → IsOff (late line k j)
  unfolding rest Rests late
  off_late j = record { rests = (tt, refl); off = refl }

  off_unblocked : (j : ℕ) → IsOff (unblocked line k j)
  unfolding rest Rests unblocked
  off_unblocked j = record { rests = ((tt, refl), (off_late j).rests); off = refl }

  off_locked_out : (j : ℕ) → IsOff (locked_out line k j)
  unfolding rest Rests locked_out late guard_seen
  off_locked_out j = record {
    rests = (
      (tt, refl),
      refl,
      inr (record {
        channel = channel_to line k j;
        window = channel_setting line k j UnblockWindow;
        restore = channel_setting line k j UnblockRestore;
        sets = refl;
        holds = refl;
      }),
    );
    off = refl;
  }

  off_open_from : (j : ℕ) → IsOff (open_from line k j)
  unfolding open_from
  off_open_from j =
      off_and (Or (received line k j) (unblocked line k j)) (Not (locked_out line k j))
      (off_or (received line k j) (unblocked line k j) (off_received j) (off_unblocked j))
      (rests_not (locked_out line k j) (off_locked_out j).rests)

  off_all_open : IsOff (all_open line k)
  unfolding all_open
  off_all_open = off_others And joins_and (open_from line k) off_open_from

  -- ---- permission

  off_reversal_guard : IsOff (reversal_guard line k)
  unfolding reversal_guard
  off_reversal_guard = off_cond (is_guarded line k)
      (Timer (reverse line k) (terminal_setting line k ReversalPickup)
      (terminal_setting line k ReversalDropout))
      (Const false)
      (off_timer (reverse line k) (terminal_setting line k ReversalPickup)
      (terminal_setting line k ReversalDropout) (off_seen element.Rv))
      off_const

  rests_quiet : Rests (quiet line k)
  unfolding quiet
  rests_quiet =
      rests_not (Timer (Or (zone2 line k) (reverse line k)) Zero (terminal_setting line k EchoBlock))
      (off_timer (Or (zone2 line k) (reverse line k)) Zero (terminal_setting line k EchoBlock)
      (off_or (zone2 line k) (reverse line k) (off_seen element.Z2) (off_seen element.Rv))).rests

  module _ (perm : Tree) (p : IsOff perm) where
    off_echo_wanted : IsOff (echo_wanted line k perm)
    unfolding echo_wanted
    off_echo_wanted = off_cond (is_weak line k)
        (Timer (And perm (quiet line k)) (terminal_setting line k EchoPickup) Zero) (Const false)
        (off_timer (And perm (quiet line k)) (terminal_setting line k EchoPickup) Zero
        (off_and perm (quiet line k) p rests_quiet))
        off_const

    off_echo : IsOff (echo line k perm)
    unfolding echo
    off_echo = off_cond (is_weak line k)
        (And (echo_wanted line k perm)
        (Not (Timer (echo_wanted line k perm) (terminal_setting line k EchoPulse) Zero)))
        (Const false)
        (off_and (echo_wanted line k perm)
        (Not (Timer (echo_wanted line k perm) (terminal_setting line k EchoPulse) Zero)) off_echo_wanted
        (rests_not (Timer (echo_wanted line k perm) (terminal_setting line k EchoPulse) Zero)
        (off_timer (echo_wanted line k perm) (terminal_setting line k EchoPulse) Zero
        off_echo_wanted).rests))
        off_const

    off_weak_infeed_trip : IsOff (weak_infeed_trip line k perm)
    unfolding weak_infeed_trip
    off_weak_infeed_trip = off_cond (is_weak line k)
        (And (echo_wanted line k perm) (undervoltage line k)) (Const false)
        (off_and (echo_wanted line k perm) (undervoltage line k) off_echo_wanted
        (off_seen element.Uv).rests)
        off_const

    off_permissive_key : IsOff (permissive_key line k perm)
    unfolding permissive_key
    off_permissive_key =
        off_or (And (zone2 line k) (Not (reversal_guard line k))) (echo line k perm)
        (off_and (zone2 line k) (Not (reversal_guard line k)) (off_seen element.Z2)
        (rests_not (reversal_guard line k) off_reversal_guard.rests))
        off_echo

    off_permissive_pilot : IsOff (permissive_pilot line k perm)
    unfolding permissive_pilot
    off_permissive_pilot =
        off_or (And (And (zone2 line k) perm) (Not (reversal_guard line k)))
        (weak_infeed_trip line k perm)
        (off_and (And (zone2 line k) perm) (Not (reversal_guard line k))
        (off_and (zone2 line k) perm (off_seen element.Z2) p.rests)
        (rests_not (reversal_guard line k) off_reversal_guard.rests))
        off_weak_infeed_trip

  -- ---- blocking, underreach and transfer

  off_blocking_key : IsOff (blocking_key line k)
  unfolding blocking_key
  off_blocking_key =
      off_timer (And (reverse line k) (Not (zone2 line k))) Zero (terminal_setting line k BlockCarry)
      (off_and (reverse line k) (Not (zone2 line k)) (off_seen element.Rv)
      (rests_not (zone2 line k) (off_seen element.Z2).rests))

  off_blocking_pilot : IsOff (blocking_pilot line k)
  unfolding blocking_pilot
  off_blocking_pilot =
      off_and (Timer (zone2 line k) (terminal_setting line k BlockCoord) Zero)
      (Not (any_received line k))
      (off_timer (zone2 line k) (terminal_setting line k BlockCoord) Zero (off_seen element.Z2))
      (rests_not (any_received line k) off_any_received.rests)

  off_underreach_pilot : IsOff (underreach_pilot line k)
  unfolding underreach_pilot
  off_underreach_pilot =
      off_and (zone2 line k) (any_received line k) (off_seen element.Z2) off_any_received.rests

  off_transfer_pilot : IsOff (transfer_pilot line k)
  unfolding transfer_pilot
  off_transfer_pilot =
      off_timer (any_received line k) (terminal_setting line k TransferSecurity) Zero off_any_received

  -- ---- scheme by scheme

  off_key_by : (s : Scheme) → IsOff (key_by s line k)
  off_key_by Pott = off_permissive_key (all_received line k) off_all_received
  off_key_by Dcub = off_permissive_key (all_open line k) off_all_open
  off_key_by Putt = off_seen element.Z1
  off_key_by Dcb = off_blocking_key
  off_key_by Dtt = off_seen element.Z1

  off_pilot_by : (s : Scheme) → IsOff (pilot_by s line k)
  off_pilot_by Pott = off_permissive_pilot (all_received line k) off_all_received
  off_pilot_by Dcub = off_permissive_pilot (all_open line k) off_all_open
  off_pilot_by Putt = off_underreach_pilot
  off_pilot_by Dcb = off_blocking_pilot
  off_pilot_by Dtt = off_transfer_pilot

  pub off_key_tree : IsOff (key_tree line k)
  unfolding key_tree
  off_key_tree = off_key_by line.scheme

  off_set_tree : IsOff (set_tree line k)
  unfolding set_tree
  off_set_tree =
      off_cond line.zone1_trip (Or (pilot_by line.scheme line k) (zone1 line k))
      (pilot_by line.scheme line k)
      (off_or (pilot_by line.scheme line k) (zone1 line k) (off_pilot_by line.scheme)
      (off_seen element.Z1))
      (off_pilot_by line.scheme)

  pub off_trip_tree : IsOff (trip_tree line k)
  unfolding trip_tree
  off_trip_tree =
      off_seal (set_tree line k) (seen_timed line k element.Cur) off_set_tree (off_seen element.Cur).rests
