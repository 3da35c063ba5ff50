-- The trees of a line know no tick: those of lines that differ in their ticks alone are the same.
use Rattle.std.proofs.Common.{◌≡◌, ℕ, refl, sym, ◌∙◌, ap}
use Rattle.std.specs.Prelude.{if◌then◌else◌}
use Rattle.model_line.specs.{declared.line.Line.Line, declared.line.Scheme.Scheme}
use Rattle.model_line.specs.declared.line.Scheme.TheVariants.{Pott, Putt, Dcb, Dcub, Dtt}
use Rattle.model_line.specs.SetBounds.{SameButParams}
use Rattle.model_logic.specs.IntervalLaws.{TreesRestOnNoInterval}
use Rattle.model_logic.specs.{Tree.Tree, Tree.Or, Tree.Seal}
use Rattle.model_logic.specs.Elements.{current, setting_of, seen_timed, zone1}
use Rattle.model_logic.specs.Received.{channel_to, received, all_others, any_received, all_received}
use Rattle.model_logic.specs.Unblocking.{channel_setting, guard_seen, late, unblocked, locked_out}
use Rattle.model_logic.specs.Unblocking.{open_from, all_open}
use Rattle.model_logic.specs.Permissive.{terminal_setting, reversal_guard, quiet, echo_wanted, echo}
use Rattle.model_logic.specs.Permissive.{weak_infeed_trip, permissive_key, permissive_pilot}
use Rattle.model_logic.specs.Logic.{blocking_key, blocking_pilot, underreach_pilot, transfer_pilot}
use Rattle.model_logic.specs.Logic.{key_by, pilot_by, key_tree, set_tree, trip_tree}

-- the line in ticks of another length, to another horizon
abbrev pub in_ticks_of : Line → Line → Line
in_ticks_of line other = record line {
  tick_us = other.tick_us;
  tick_in_range = other.tick_in_range;
  horizon = other.horizon;
  horizon_in_range = other.horizon_in_range;
}

-- the trees know no tick
key_of_scheme : (s : Scheme) (line other : Line) (k : ℕ)
    → key_by s (in_ticks_of line other) k ≡ key_by s line k
unfolding setting_of seen_timed channel_to received all_others any_received all_received channel_setting guard_seen late unblocked locked_out open_from all_open terminal_setting reversal_guard quiet echo_wanted echo permissive_key blocking_key
key_of_scheme Pott line other k = refl
key_of_scheme Putt line other k = refl
key_of_scheme Dcb line other k = refl
key_of_scheme Dcub line other k = refl
key_of_scheme Dtt line other k = refl

key_timeless : (line other : Line) (k : ℕ) → key_tree (in_ticks_of line other) k ≡ key_tree line k
unfolding key_tree
key_timeless line other k = key_of_scheme line.scheme line other k

pilot_of_scheme : (s : Scheme) (line other : Line) (k : ℕ)
    → pilot_by s (in_ticks_of line other) k ≡ pilot_by s line k
unfolding setting_of seen_timed channel_to received all_others any_received all_received channel_setting guard_seen late unblocked locked_out open_from all_open terminal_setting reversal_guard quiet echo_wanted weak_infeed_trip permissive_pilot blocking_pilot underreach_pilot transfer_pilot
pilot_of_scheme Pott line other k = refl
pilot_of_scheme Putt line other k = refl
pilot_of_scheme Dcb line other k = refl
pilot_of_scheme Dcub line other k = refl
pilot_of_scheme Dtt line other k = refl

set_timeless : (line other : Line) (k : ℕ) → set_tree (in_ticks_of line other) k ≡ set_tree line k
unfolding set_tree seen_timed setting_of
set_timeless line other k =
    ap (λ (pilot : Tree). if line.zone1_trip then Or pilot (zone1 line k) else pilot)
    (pilot_of_scheme line.scheme line other k)

trip_timeless : (line other : Line) (k : ℕ) → trip_tree (in_ticks_of line other) k ≡ trip_tree line k
unfolding trip_tree seen_timed setting_of
trip_timeless line other k =
    ap (λ (set : Tree). Seal set (current line k)) (set_timeless line other k)

module _ (logic : TreesRestOnNoInterval) (line other : Line)
    (same : SameButParams line (in_ticks_of other line)) where
  pub same_key : (k : ℕ) → key_tree other k ≡ key_tree line k
  same_key k =
      sym (key_timeless other line k) ∙ logic.keys line (in_ticks_of other line) k same

  pub same_trip : (k : ℕ) → trip_tree other k ≡ trip_tree line k
  same_trip k =
      sym (trip_timeless other line k) ∙ logic.trips line (in_ticks_of other line) k same
