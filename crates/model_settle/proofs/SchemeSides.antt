-- The trees of a line whose scheme is one-railed are read on one rail.
use Rattle.std.proofs.Common.{◌≡◌, ◌==◌, ℕ, zero, suc, ◌<◌, Bool, true, false, cond, Option, Some}
use Rattle.std.proofs.Common.{None, [], get_or, refl, ap, ◌∙◌, subst}
use Rattle.std.proofs.lemmas.Bool.{both_ways}
use Rattle.std.specs.Prelude.{unwrap_or, IfSome, IsFalse}
use Rattle.std.specs.List.{list_any}
use Rattle.model_line.specs.declared.line.Scheme.TheVariants.{Pott, Putt, Dcb, Dcub, Dtt}
use Rattle.model_line.specs.declared.line.Setting.TheVariants.{Z1Pickup, Z1Dropout, Z2Pickup}
use Rattle.model_line.specs.declared.line.Setting.TheVariants.{Z2Dropout, RvPickup, RvDropout}
use Rattle.model_line.specs.declared.line.Setting.TheVariants.{ReversalPickup, ReversalDropout}
use Rattle.model_line.specs.declared.line.Setting.TheVariants.{BlockCarry, BlockCoord}
use Rattle.model_line.specs.declared.line.Setting.TheVariants.{TransferSecurity}
use Rattle.model_line.specs.Settings.{same_setting, groups_with, guard_settings, scheme_settings}
use Rattle.model_line.specs.Channels.{from_of}
use Rattle.model_line.specs.{declared.line.Line.Line, declared.line.Scheme.Scheme}
use Rattle.model_line.specs.{declared.line.Setting.Setting, Parameters.terminal_count}
use Rattle.model_line.specs.SettingPlaceLaws.{in_group}
use Rattle.model_logic.specs.Tree.{Tree, Const, And, Or, Timer}
use Rattle.model_logic.specs.Elements.{is_guarded, is_weak, seen_timed, zone1, zone2, reverse}
use Rattle.model_logic.specs.Elements.{current}
use Rattle.model_logic.specs.Received.{received, joined, over_others, all_others, any_received}
use Rattle.model_logic.specs.Received.{all_received}
use Rattle.model_logic.specs.Permissive.{terminal_setting, reversal_guard, echo, weak_infeed_trip}
use Rattle.model_logic.specs.Permissive.{permissive_key, permissive_pilot}
use Rattle.model_logic.specs.Logic.{blocking_key, blocking_pilot, underreach_pilot, transfer_pilot}
use Rattle.model_logic.specs.Logic.{key_by, pilot_by, key_tree, set_tree, trip_tree}
use Rattle.model_logic.specs.Laws.{LineLaws}
use Rattle.model_settle.specs.Sides.{Rail, Must, May, turned, IsReadOn}
use Rattle.model_settle.specs.Sides.{IsTakenAt}
use Rattle.model_settle.specs.Schemes.{IsOneRailedBy, key_rail, end_for, scheme_sides}
use Rattle.model_settle.specs.Schemes.{all_terminals}
use Rattle.model_settle.proofs.SettingSides.{taken}

-- ---- what holds of each tree holds of all joined

module _ (P : Tree → Type 0) (op : Tree → Tree → Tree) (joins : (a b : Tree) → P a → P b → P (op a b))
    (none : P (Const false)) (tree : ℕ → Tree) (each : (j : ℕ) → P (tree j)) where
  of_joined : (o : Option Tree) (x : Tree) → IfSome o P → P x → P (joined op o x)
  of_joined None x p q = q
  of_joined (Some a) x p q = joins a x p q

  of_step : (o : Option Tree) (x : Tree) → IfSome o P → P x → (b : Bool)
      → IfSome (cond b o (Some (joined op o x))) P
  of_step o x p q true = p
  of_step o x p q false = of_joined o x p q

  of_over : (k n : ℕ) → IfSome (over_others op tree k n) P
  of_over k zero = tt
  of_over k (suc n) =
      of_step (over_others op tree k n) (tree n) (of_over k n) (each n) (n == k)

  of_unless : (o : Option Tree) → IfSome o P → P (unwrap_or o (Const false))
  of_unless None p = none
  of_unless (Some a) p = p

  of_all_others : (line : Line) (k : ℕ) → P (all_others op tree line k)
  unfolding all_others
  of_all_others line k = of_unless (over_others op tree k (terminal_count line))
      (of_over k (terminal_count line))

turned_twice : (rail : Rail) → rail ≡ turned (turned rail)
turned_twice Must = refl
turned_twice May = refl

module _ (line : Line) (laws : LineLaws) (rail : Rail) where
  abbrev Reads : Rail → Tree → Type 0
  Reads r x = IsReadOn (from_of line.channels.items) all_terminals (scheme_sides line rail) r x

  -- ---- what is received, where keys are read on that rail

  reads_received : (r : Rail) → key_rail line.scheme rail ≡ r → (k j : ℕ) → Reads r (received line k j)
  unfolding received IsReadOn
  reads_received r e k j = ((refl, e), tt)

  reads_any : (r : Rail) → key_rail line.scheme rail ≡ r → (k : ℕ) → Reads r (any_received line k)
  unfolding any_received IsReadOn
  reads_any r e k =
      of_all_others (Reads r) Or (λ a b p q. (p, q)) tt (received line k) (reads_received r e k) line k

  reads_all : (r : Rail) → key_rail line.scheme rail ≡ r → (k : ℕ) → Reads r (all_received line k)
  unfolding all_received IsReadOn
  reads_all r e k =
      of_all_others (Reads r) And (λ a b p q. (p, q)) tt (received line k) (reads_received r e k) line k

  reads_cond : (r : Rail) (b : Bool) (x y : Tree) → (b ≡ true → Reads r x) → Reads r y
      → Reads r (cond b x y)
  reads_cond r true x y p q = p refl
  reads_cond r false x y p q = q

  reads_none : (r : Rail) → Reads r (Const false)
  unfolding IsReadOn
  reads_none r = tt

  module _ (k : ℕ) (kn : k < terminal_count line) where
    -- ---- what is seen

    reads_zone1 : Reads rail (zone1 line k)
    unfolding IsReadOn seen_timed
    reads_zone1 = (tt, (taken line laws rail k kn Z1Pickup refl, taken line laws rail k kn Z1Dropout refl))

    reads_zone2 : Reads rail (zone2 line k)
    unfolding IsReadOn seen_timed
    reads_zone2 = (tt, (taken line laws rail k kn Z2Pickup refl, taken line laws rail k kn Z2Dropout refl))

    reads_reverse : Reads (turned rail) (reverse line k)
    unfolding IsReadOn seen_timed
    reads_reverse =
        (tt, (taken line laws rail k kn RvPickup refl, taken line laws rail k kn RvDropout refl))

    reads_current : (r : Rail) → Reads r (current line k)
    unfolding IsReadOn seen_timed
    reads_current r = tt

    -- ---- settings of groups

    of_group : (j : ℕ) (x : Setting)
        → list_any (same_setting x)
        (get_or (groups_with line.scheme (is_guarded line k) (is_weak line k)) j []) ≡ true
        → IsTakenAt (scheme_sides line rail) (terminal_setting line k x) (end_for rail x)
    unfolding terminal_setting
    of_group j x has = taken line laws rail k kn x
        (in_group (same_setting x) j
        (groups_with line.scheme (is_guarded line k) (is_weak line k)) has)

    guard_setting : (x : Setting) → list_any (same_setting x) (guard_settings true) ≡ true
        → is_guarded line k ≡ true
        → IsTakenAt (scheme_sides line rail) (terminal_setting line k x) (end_for rail x)
    guard_setting x has g =
        of_group 4 x (ap (λ b. list_any (same_setting x) (guard_settings b)) g ∙ has)

    scheme_setting : (s : Scheme) (x : Setting)
        → list_any (same_setting x) (scheme_settings s) ≡ true → line.scheme ≡ s
        → IsTakenAt (scheme_sides line rail) (terminal_setting line k x) (end_for rail x)
    scheme_setting s x has is =
        of_group 6 x (ap (λ q. list_any (same_setting x) (scheme_settings q)) is ∙ has)

    reads_guard : Reads (turned rail) (reversal_guard line k)
    unfolding reversal_guard IsReadOn
    reads_guard = reads_cond (turned rail) (is_guarded line k)
        (Timer (reverse line k) (terminal_setting line k ReversalPickup)
        (terminal_setting line k ReversalDropout))
        (Const false)
        (λ g. (
          reads_reverse,
          (guard_setting ReversalPickup refl g, guard_setting ReversalDropout refl g),
        ))
        (reads_none (turned rail))

    -- ---- permission, at a terminal that is not weak

    module _ (strong : IsFalse (is_weak line k)) (perm : Tree) (reads : Reads rail perm) where
      never_weak : (r : Rail) (x : Tree) → is_weak line k ≡ true → Reads r x
      never_weak r x weak = absurd (both_ways (is_weak line k) strong weak)

      reads_echo : Reads rail (echo line k perm)
      unfolding echo
      reads_echo = reads_cond rail (is_weak line k) _ (Const false) (never_weak rail _) (reads_none rail)

      reads_weak_trip : Reads rail (weak_infeed_trip line k perm)
      unfolding weak_infeed_trip
      reads_weak_trip =
          reads_cond rail (is_weak line k) _ (Const false) (never_weak rail _) (reads_none rail)

      reads_permissive_key : Reads rail (permissive_key line k perm)
      unfolding permissive_key IsReadOn
      reads_permissive_key = ((reads_zone2, reads_guard), reads_echo)

      reads_permissive_pilot : Reads rail (permissive_pilot line k perm)
      unfolding permissive_pilot IsReadOn
      reads_permissive_pilot = (((reads_zone2, reads), reads_guard), reads_weak_trip)

    -- ---- blocking, underreach and transfer

    reads_blocking_key : line.scheme ≡ Dcb → Reads (turned rail) (blocking_key line k)
    unfolding blocking_key IsReadOn
    reads_blocking_key s = (
      (reads_reverse, subst (λ r. Reads r (zone2 line k)) (turned_twice rail) reads_zone2),
      (tt, scheme_setting Dcb BlockCarry refl s),
    )

    reads_blocking_pilot : line.scheme ≡ Dcb → Reads rail (blocking_pilot line k)
    unfolding blocking_pilot IsReadOn
    reads_blocking_pilot s = (
      (reads_zone2, (scheme_setting Dcb BlockCoord refl s, tt)),
      reads_any (turned rail) (ap (λ q. key_rail q rail) s) k,
    )

    reads_underreach_pilot : line.scheme ≡ Putt → Reads rail (underreach_pilot line k)
    unfolding underreach_pilot IsReadOn
    reads_underreach_pilot s = (reads_zone2, reads_any rail (ap (λ q. key_rail q rail) s) k)

    reads_transfer_pilot : line.scheme ≡ Dtt → Reads rail (transfer_pilot line k)
    unfolding transfer_pilot IsReadOn
    reads_transfer_pilot s = (
      reads_any rail (ap (λ q. key_rail q rail) s) k,
      (scheme_setting Dtt TransferSecurity refl s, tt),
    )

    -- ---- scheme by scheme

    reads_key_by : (s : Scheme) → line.scheme ≡ s → IsOneRailedBy s line
        → Reads (key_rail s rail) (key_by s line k)
    reads_key_by Pott e strong = reads_permissive_key (strong k kn) (all_received line k)
        (reads_all rail (ap (λ q. key_rail q rail) e) k)
    reads_key_by Dcub e never = absurd never
    reads_key_by Putt e h = reads_zone1
    reads_key_by Dcb e h = reads_blocking_key e
    reads_key_by Dtt e h = reads_zone1

    reads_pilot_by : (s : Scheme) → line.scheme ≡ s → IsOneRailedBy s line
        → Reads rail (pilot_by s line k)
    reads_pilot_by Pott e strong = reads_permissive_pilot (strong k kn) (all_received line k)
        (reads_all rail (ap (λ q. key_rail q rail) e) k)
    reads_pilot_by Dcub e never = absurd never
    reads_pilot_by Putt e h = reads_underreach_pilot e
    reads_pilot_by Dcb e h = reads_blocking_pilot e
    reads_pilot_by Dtt e h = reads_transfer_pilot e

    pub reads_key_tree : IsOneRailedBy line.scheme line
        → Reads (key_rail line.scheme rail) (key_tree line k)
    unfolding key_tree
    reads_key_tree h = reads_key_by line.scheme refl h

    reads_set_tree : IsOneRailedBy line.scheme line → Reads rail (set_tree line k)
    unfolding set_tree IsReadOn
    reads_set_tree h =
        reads_cond rail line.zone1_trip (Or (pilot_by line.scheme line k) (zone1 line k))
        (pilot_by line.scheme line k)
        (λ _. (reads_pilot_by line.scheme refl h, reads_zone1))
        (reads_pilot_by line.scheme refl h)

    pub reads_trip_tree : IsOneRailedBy line.scheme line → Reads rail (trip_tree line k)
    unfolding trip_tree IsReadOn
    reads_trip_tree h = (reads_set_tree h, reads_current rail)
